mod RowsLess
mod Stored
mod Places
mod Puts
mod TakingBack
mod Marks
mod IndexLaws
mod Finding
mod Gathering
mod TermLaws
pub mod Columns
