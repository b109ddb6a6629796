-- in the order in which they are read
pub mod Missing
pub mod Tests
