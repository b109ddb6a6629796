pub mod Heads
pub mod Patterns
pub mod Pieces
pub mod Replacing
pub mod Search
pub mod Sets
pub mod Texts
