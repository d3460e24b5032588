pub mod Paths
pub mod Naming
pub mod Weighing
pub mod Following
pub mod Exploring
pub mod Complete
pub mod VectorWeights
