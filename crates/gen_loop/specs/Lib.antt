pub mod Loops
pub mod Needs
pub mod Stretches
pub mod Sorting
