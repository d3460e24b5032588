pub mod Bytes
pub mod Lines
pub mod Counts
pub mod Examples
pub mod OnceLines
