pub mod Where
pub mod Scopes
pub mod Turns
pub mod Tables
pub mod Results
