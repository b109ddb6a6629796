pub mod GroupLaws
pub mod StarLaws
