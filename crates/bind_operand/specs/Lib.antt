pub mod Bare
pub mod Meant
