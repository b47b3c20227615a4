-- The meaning of the instructions, and cases of it.
pub mod Stops
pub mod Effect
pub mod Cases
