pub mod Courses
pub mod Cuts
pub mod Running
pub mod Taken
