-- The definitions that the contracts of `memory` cite.
pub mod Bytes
pub mod Lists
pub mod Rows
