pub mod Parts
pub mod Items
pub mod Recursive
pub mod Units
