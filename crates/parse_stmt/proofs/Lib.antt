pub mod Clear
pub mod Words
pub mod Transacted
pub mod Ends
