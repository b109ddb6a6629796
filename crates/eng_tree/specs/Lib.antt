pub mod Map
pub mod Undo
pub mod Prefix
