pub mod Nestings
pub mod Limits
pub mod Outermost
pub mod Fronts
pub mod Answers
pub mod Examples
