-- The definitions that the contracts of `gc` cite.
pub mod Metadata
pub mod Pages
pub mod Lent
pub mod Cases
