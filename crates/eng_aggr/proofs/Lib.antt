pub mod Finishing
pub mod Stepping
