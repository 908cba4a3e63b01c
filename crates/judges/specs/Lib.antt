pub mod Verdicts
pub mod Reading
pub mod Answers
pub mod Visitors
pub mod Pages
pub mod Agreement
