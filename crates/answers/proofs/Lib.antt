-- A state in words and back; what replies and ends are answered with.
pub mod Packing
pub mod Replied
