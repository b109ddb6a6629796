pub mod ConstraintLaws
pub mod JoinLaws
pub mod ScopedLaws
