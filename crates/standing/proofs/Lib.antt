-- The proof of what is claimed: frames through a run, a machine through any call, the numbers it is refused with, and a machine of which it speaks.
pub mod Frames
pub mod Lasting
pub mod Standing
pub mod Premises
