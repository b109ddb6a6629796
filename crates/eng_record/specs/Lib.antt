pub mod Spelling
pub mod Reading
pub mod Columns
pub mod Examples
pub mod Lent
