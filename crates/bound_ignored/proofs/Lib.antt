pub mod ErasedLists
mod ErasedTrees
pub mod ErasedLaws
mod Marks
