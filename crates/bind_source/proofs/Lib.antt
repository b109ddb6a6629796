pub mod ArgumentCounts
pub mod SourceLaws
pub mod Words
