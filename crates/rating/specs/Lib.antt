-- What is written of a rating.
pub mod Rated
