pub mod Kinds
pub mod Contents
pub mod Kept
pub mod Refusals
pub mod Admission
