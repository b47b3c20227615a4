-- A state in words, and what a call returns and writes.
pub mod Words
pub mod Answered
