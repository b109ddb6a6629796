pub mod Clear
pub mod Straight
pub mod Bracketed
pub mod Wrapped
pub mod Inside
pub mod Lists
pub mod Alone
