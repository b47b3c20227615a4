-- The definitions that the contracts of `anomaly` cite.
pub mod Table
