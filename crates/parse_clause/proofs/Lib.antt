pub mod Clear
pub mod Aliases
pub mod Bracketed
pub mod Expressions
pub mod Spans
pub mod ResultSteps
pub mod Joins
pub mod Lists
