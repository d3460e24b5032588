pub mod Elements
pub mod Entries
pub mod Seen
pub mod Lexicons
pub mod Examples
