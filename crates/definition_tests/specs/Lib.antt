pub mod Spans
pub mod Counting
pub mod Fit
