pub mod Firsts
pub mod Picking
pub mod Runs
pub mod Tells
