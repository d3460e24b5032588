pub mod Surfaces
pub mod Tests
pub mod Searches
pub mod Steps
pub mod Entering
pub mod Choices
pub mod Hears
pub mod HitText
