pub mod VerdictText
