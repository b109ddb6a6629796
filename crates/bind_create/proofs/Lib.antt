pub mod EventLaws
pub mod HoldLaws
pub mod LevelLaws
pub mod TableLaws
