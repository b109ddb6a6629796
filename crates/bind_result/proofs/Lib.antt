pub mod GroupLaws
pub mod NumberLaws
pub mod RowLaws
pub mod TermLaws
