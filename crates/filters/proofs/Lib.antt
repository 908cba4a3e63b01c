pub mod Views
pub mod Shapes
pub mod Answers
pub mod Stands
pub mod Placed
pub mod Worded
