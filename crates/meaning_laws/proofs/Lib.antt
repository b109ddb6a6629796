pub mod NameLaws
pub mod ErasedNames
pub mod FromLaws
pub mod QueryLaws
pub mod MarkLaws
pub mod UnitLaws
pub mod PutLaws
pub mod StatementLaws
