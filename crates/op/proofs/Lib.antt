-- Laws of the definitions of `op`. `Sound` and `Places` are for callers.
pub mod Masks
pub mod Rows
pub mod Checks
pub mod Sound
pub mod Places
pub mod Formats
