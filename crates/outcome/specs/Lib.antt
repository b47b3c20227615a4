-- What is written of a run, or of a reply.
pub mod Outcome
