pub mod Rowids
pub mod Values
pub mod RowKeys
