pub mod Moves
pub mod MoveClasses
pub mod Runs
pub mod Conditions
pub mod States
pub mod Turning
pub mod Incoming
