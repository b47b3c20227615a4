-- The proof of Demand 3.
pub mod Demand3
pub mod Premises
