pub mod Steps
pub mod Varints
pub mod Integers
pub mod Types
pub mod Bodies
pub mod Headers
pub mod Records
pub mod WritingLoops
pub mod ReadingLoops
pub mod ColumnSteps
mod Lending
mod ShortNumbers
