pub mod Items
pub mod Gives
pub mod Parts
pub mod Whole
