pub mod Faults
pub mod Tests
pub mod Steps
pub mod Visits
