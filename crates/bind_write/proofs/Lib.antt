pub mod ConstraintLaws
pub mod FireLaws
pub mod Folds
pub mod LevelLaws
pub mod OpenLaws
pub mod StepLaws
pub mod TurnLaws
pub mod WriteLaws
