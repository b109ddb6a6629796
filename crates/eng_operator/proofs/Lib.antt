pub mod TruthLaws
pub mod CauseUnions
pub mod PlainLaws
