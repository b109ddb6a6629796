pub mod Explicits
pub mod Splits
