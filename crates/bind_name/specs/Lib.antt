pub mod Literals
pub mod Types
