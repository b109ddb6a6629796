pub mod Clear
pub mod Straight
pub mod Lists
pub mod Suffixed
pub mod Joined
pub mod Smaller
pub mod Tails
pub mod Others
