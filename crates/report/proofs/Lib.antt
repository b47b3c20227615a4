-- The laws of digits and of texts written one behind another.
pub mod Texts
