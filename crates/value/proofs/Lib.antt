-- The laws that the proofs of `value` cite, and the fact that its worked cases hold. Assumes nothing.
pub mod Patterns
pub mod Divides
pub mod Nans
pub mod Fields
pub mod Cases
