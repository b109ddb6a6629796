pub mod CaseLaws
pub mod CauseLaws
pub mod CollationLaws
pub mod RowLaws
mod Beside
pub mod LiteralLaws
pub mod SubstrLaws
pub mod TrimLaws
pub mod Arranging
pub mod Shuffling
pub mod Sorting
