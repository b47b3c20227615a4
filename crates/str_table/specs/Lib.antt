-- The definitions that the contracts of `str_table` cite.
pub mod Table
pub mod Grow
pub mod Sound
