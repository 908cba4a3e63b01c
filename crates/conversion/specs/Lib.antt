pub mod Misfits
pub mod Table
pub mod Laws
