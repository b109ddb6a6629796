pub mod Keys
pub mod Stored
pub mod Fronts
pub mod Doubles
pub mod Searching
