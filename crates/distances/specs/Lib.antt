pub mod Best
pub mod Rounds
pub mod Least
pub mod Waiting
pub mod Settled
