pub mod Exprs
pub mod Seen
pub mod SeenLaws
pub mod Same
pub mod SameUnits
pub mod Halves
pub mod Conditions
