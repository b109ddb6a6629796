pub mod Clear
pub mod Selecting
pub mod CompoundSteps
pub mod OrderingSteps
pub mod Tables
