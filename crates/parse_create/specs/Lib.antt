pub mod Parts
pub mod Elements
pub mod Arguments
