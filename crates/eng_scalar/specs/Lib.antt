pub mod Arguments
pub mod Called
pub mod Characters
pub mod Extremes
pub mod Parts
pub mod Places
pub mod Replacements
pub mod Trims
