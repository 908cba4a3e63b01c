pub mod ByteOrders
pub mod Lawful
pub mod Contents
pub mod Compared
