pub mod Meant
pub mod Cursors
pub mod Paused
pub mod Operands
pub mod Events
pub mod Tests
