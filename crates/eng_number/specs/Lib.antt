pub mod Forms
pub mod Numbers
