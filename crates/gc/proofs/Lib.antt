-- The laws of blocks and pages.
pub mod Growth
pub mod Headers
pub mod Blocks
pub mod Soundness
pub mod Types
