pub mod Meant
pub mod Levels
pub mod Steps
