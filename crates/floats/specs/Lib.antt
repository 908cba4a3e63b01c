pub mod TotalOrder
pub mod Patterns
