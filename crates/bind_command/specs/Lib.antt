pub mod Tops
pub mod Indexes
