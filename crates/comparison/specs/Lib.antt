pub mod Orders
pub mod Equality
pub mod Laws
pub mod Equal
