pub mod Failing
pub mod Spans
pub mod KindsTold
