-- The laws of an interning.
pub mod Tests
pub mod NameBlock
pub mod Calls
pub mod Interning
