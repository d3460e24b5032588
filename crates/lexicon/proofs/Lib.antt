pub mod EntryLemmas
pub mod FaultLemmas
pub mod LexiconLemmas
