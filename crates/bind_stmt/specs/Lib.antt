pub mod Small
pub mod Ignored
pub mod Binds
pub mod Steps
pub mod Plain
