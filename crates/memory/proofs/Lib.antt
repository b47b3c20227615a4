-- The laws of tests, of lists written over lists and of numbers as bytes.
pub mod Tests
pub mod Over
pub mod Writes
pub mod Bytes
pub mod Same
