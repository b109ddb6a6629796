pub mod AnswerLaws
pub mod EntryLaws
pub mod LastLaws
pub mod NamingLaws
