pub mod Order
pub mod Counted
pub mod Found
pub mod Lowest
pub mod Forest
