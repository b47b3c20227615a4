-- The image that a text says, and its words.
pub mod Said
pub mod Joined
