pub mod Families
pub mod Literals
pub mod Grown
pub mod Steps
pub mod Lawful
