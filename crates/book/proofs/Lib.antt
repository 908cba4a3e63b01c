pub mod Edited
pub mod Turned
pub mod Folded
pub mod Called
