mod Gathering
mod Listing
mod Shown
mod Following
mod Alike
mod Widening
mod Fitting
mod Naming
mod Performing
mod Counting
pub mod Sizing
