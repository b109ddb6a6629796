pub mod Readiness
pub mod Consumed
pub mod Loops
pub mod Insertion
