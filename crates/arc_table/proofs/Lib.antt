pub mod Push
pub mod OneRun
pub mod Places
pub mod SomeWord
