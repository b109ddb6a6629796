pub mod Answered
pub mod Arounds
