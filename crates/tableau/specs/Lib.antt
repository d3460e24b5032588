pub mod Rows
pub mod Tableaux
pub mod Compared
pub mod Layout
