-- The loop, and the way from the call to the loop and back.
pub mod Loops
pub mod Entering
