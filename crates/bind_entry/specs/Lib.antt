pub mod TableParts
