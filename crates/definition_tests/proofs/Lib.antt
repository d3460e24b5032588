mod WordSteps
mod MeetSteps
mod ChoiceSteps
mod Bounds
pub mod Sets
pub mod Apart
pub mod FitStates
