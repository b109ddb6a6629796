pub mod Sizes
pub mod Counts
pub mod Plain
pub mod Brought
pub mod Small
pub mod SizeExamples
