-- in the order in which they are read
pub mod Standing
pub mod Keeping
pub mod Rules
pub mod Exactly
