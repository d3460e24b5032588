pub mod ClassOrder
pub mod Held
pub mod Joined
pub mod Parts
