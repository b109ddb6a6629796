pub mod Items
pub mod Steps
pub mod Opening
pub mod Types
pub mod Names
pub mod Exact
pub mod Spans
