pub mod Erased
pub mod Marked
pub mod Samples
