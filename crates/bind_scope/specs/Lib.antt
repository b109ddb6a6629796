pub mod Sights
pub mod Entries
