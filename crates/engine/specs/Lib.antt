-- in the order in which they are read
pub mod Held
pub mod Taking
pub mod Running
pub mod Stretches
pub mod Executing
pub mod Causes
pub mod Connected
pub mod Prepared
pub mod Outcomes
pub mod Explained
pub mod Uncounted
