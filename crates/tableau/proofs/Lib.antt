pub mod LineCuts
pub mod RowLemmas
pub mod Readings
pub mod Comparing
pub mod LengthLemmas
pub mod Turns
