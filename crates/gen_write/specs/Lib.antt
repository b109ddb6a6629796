pub mod Stretches
pub mod Writes
