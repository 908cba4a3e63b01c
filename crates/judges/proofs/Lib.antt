pub mod Lists
pub mod NotANumber
pub mod EvenHanded
pub mod Pages
pub mod Agreement
pub mod Counting
