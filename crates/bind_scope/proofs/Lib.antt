pub mod EntryLaws
pub mod NeedLaws
pub mod SightLaws
