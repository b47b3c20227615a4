-- The laws of comparing answers.
pub mod Comparing
