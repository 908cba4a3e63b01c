pub mod Equality
pub mod Edits
pub mod Calls
pub mod Ways
pub mod Law
pub mod Equal
