-- The source: causes of several expressions, what no row means to them, and the code that evaluates and keeps them.
mod Causing
mod Seeing
mod Refusals
pub mod Sizing
mod Keeping
-- A row: what its columns store, its rowid and the tests as stretches of code, what is open along them, and its CHECKs.
mod Columns
mod Opens
mod Needing
mod Testing
mod Checking
-- What a row and rows come to, and their code.
mod Courses
mod RowRuns
mod Fitting
mod Fresh
mod Views
mod RowCode
-- Whole programs.
mod Whole
