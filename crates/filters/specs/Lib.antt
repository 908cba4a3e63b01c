pub mod Trees
pub mod Meanings
pub mod Runs
pub mod Placed
