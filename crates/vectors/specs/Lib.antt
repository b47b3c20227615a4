-- What a record says, and what is counted of the cases.
pub mod Recorded
pub mod Counted
