pub mod Affinities
pub mod Ascii
pub mod Digits
pub mod Kept
