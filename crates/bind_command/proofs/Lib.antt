pub mod IndexLaws
pub mod TransactionLaws
