-- What is claimed of terminals of different sizes.
pub mod Demand3
