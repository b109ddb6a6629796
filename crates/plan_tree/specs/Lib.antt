pub mod Conjuncts
pub mod Ignoring
pub mod Visits
pub mod Plans
pub mod Assigned
