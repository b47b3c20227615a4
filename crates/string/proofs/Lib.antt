-- The laws of hashes, and of strings in the heap.
pub mod Chunks
pub mod Small
pub mod SmallOk
pub mod Strings
