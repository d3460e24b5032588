pub mod Follows
pub mod Steps
pub mod Types
pub mod Ways
