-- in the order in which they are read
pub mod Words
pub mod Pieces
pub mod Listing
