pub mod Commands
pub mod Words
pub mod Seen
pub mod Lines
pub mod Causes
