pub mod ColumnLaws
pub mod KeyLaws
pub mod PlaceLaws
pub mod ThereLaws
