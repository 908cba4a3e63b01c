pub mod Stacks
pub mod Turns
pub mod Rooms
pub mod Readings
pub mod Told
pub mod Granted
