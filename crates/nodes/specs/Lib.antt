pub mod Operators
pub mod Conditions
pub mod Tables
pub mod Soundness
pub mod Counts
pub mod Filters
