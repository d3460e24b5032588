mod Sets
mod Conjunctions
mod Repeats
mod GoingOn
mod Tight
pub mod Names
pub mod KindsFew
pub mod ColumnCosts
mod Seeking
pub mod DirectWays
