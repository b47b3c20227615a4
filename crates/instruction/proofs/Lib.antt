-- One instruction, by what it asks for.
pub mod Turns
