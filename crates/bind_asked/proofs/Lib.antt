pub mod SaidLaws
pub mod AskedLaws
