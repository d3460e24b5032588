pub mod InputTiers
pub mod ReadingLemmas
