-- What the calls of a rating come to in its text.
pub mod Answers
