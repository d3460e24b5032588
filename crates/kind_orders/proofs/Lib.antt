pub mod Strict
pub mod Orders
pub mod Places
pub mod Nodes
pub mod ArcCounts
pub mod ArcOrder
pub mod GroupSteps
pub mod ByNode
pub mod Reading
pub mod AnswerParts
mod TestLines
