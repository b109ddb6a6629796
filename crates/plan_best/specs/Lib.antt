pub mod Sides
pub mod Comparing
pub mod Drafts
