pub mod Texts
pub mod Causes
pub mod Readings
pub mod Spelling
pub mod Between
pub mod Tails
pub mod Bytes
