pub mod CheckLaws
pub mod HoldLaws
