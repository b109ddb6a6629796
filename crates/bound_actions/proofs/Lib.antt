pub mod TreeLaws
pub mod ListLaws
pub mod FiringLaws
