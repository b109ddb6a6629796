-- in the order in which they are read
pub mod Names
pub mod Spelled
pub mod Bodies
pub mod Refusals
pub mod Types
pub mod Collations
pub mod Builtins
