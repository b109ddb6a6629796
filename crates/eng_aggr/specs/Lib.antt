pub mod Aggregates
pub mod Accumulators
pub mod Totals
