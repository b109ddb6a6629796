-- in the order in which they are read
pub mod Machine
pub mod Reading
pub mod Honesty
pub mod Track
pub mod Needs
pub mod OpenSets
pub mod Draft
pub mod Tracked
pub mod Accepted
pub mod Frames
pub mod Claims
