-- The definitions that the contracts of `report` cite.
pub mod Hex
pub mod Report
pub mod Cases
