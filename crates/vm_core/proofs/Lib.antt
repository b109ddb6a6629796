mod Authorized
pub mod Honesty
mod Puts
mod Steps
mod RegisterLaws
mod OperandLaws
mod Closing
mod Rowids
mod SearchLaws
mod SeekLaws
