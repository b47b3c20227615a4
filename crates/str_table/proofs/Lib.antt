-- The laws of probing, of growth and of counting slots.
pub mod Probes
pub mod Moves
pub mod Counting
pub mod NeverFull
pub mod Inserting
