pub mod ByteOrder
pub mod RowidLaws
pub mod RowKeyLaws
pub mod SpellingLaws
pub mod ValueLaws
