pub mod Reach
pub mod Order
pub mod Views
pub mod Writes
pub mod ReachExamples
