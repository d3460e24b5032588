pub mod Seen
pub mod Worked
pub mod Ranked
pub mod Faithful
