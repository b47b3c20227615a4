-- The definitions that the contracts of `op` cite, and words worked out by them.
pub mod Layout
pub mod Registers
pub mod Decode
pub mod Reach
pub mod Masks
pub mod Operands
pub mod Cases
