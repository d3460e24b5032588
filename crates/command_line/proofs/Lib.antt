mod Numbers
pub mod CommandLemmas
