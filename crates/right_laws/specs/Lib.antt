pub mod Shapes
pub mod Small
