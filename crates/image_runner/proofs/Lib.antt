-- The laws of the image runner.
pub mod Limits
pub mod Parts
pub mod Readings
pub mod Shown
