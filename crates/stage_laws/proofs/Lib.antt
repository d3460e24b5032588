pub mod Resting
pub mod Optimal
pub mod Pruned
pub mod Staged
pub mod LeastVectors
pub mod PrunedOnce
