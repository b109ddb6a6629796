pub mod Doubled
pub mod EntryLaws
pub mod Gathering
pub mod Keeping
pub mod Lists
pub mod Searching
pub mod Counting
pub mod WithinFronts
