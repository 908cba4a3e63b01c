pub mod Spelling
pub mod Grammar
pub mod Steps
