pub mod Words
pub mod NextWord
pub mod Writing
pub mod Literals
pub mod Placed
pub mod Printed
pub mod Ascii
