pub mod Stored
pub mod Rows
pub mod Changes
pub mod Marked
pub mod Indexes
