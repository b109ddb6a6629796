pub mod Shows
pub mod Terms
pub mod Numbers
pub mod Rows
pub mod Units
