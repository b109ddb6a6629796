pub mod Queries
pub mod Stretches
