pub mod Keyed
pub mod NameFacts
pub mod PlainFacts
