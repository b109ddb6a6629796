pub mod Cursors
pub mod Held
