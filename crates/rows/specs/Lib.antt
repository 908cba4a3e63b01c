pub mod Reached
pub mod Cells
pub mod Paths
