-- A run as its code goes.
pub mod Loop
