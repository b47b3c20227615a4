-- The definitions that the contracts of `text` cite.
pub mod Digits
pub mod Kinds
pub mod Lines
pub mod Text
pub mod Sections
pub mod Names
pub mod Left
pub mod Cases
