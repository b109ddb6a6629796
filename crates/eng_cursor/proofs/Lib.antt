pub mod PlaceLaws
pub mod WalkLaws
