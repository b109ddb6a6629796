pub mod Causes
pub mod Cuts
pub mod Due
pub mod Joined
pub mod Running
pub mod Whole
