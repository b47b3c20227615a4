-- The machine of document 01, defined.
pub mod Core
pub mod Run
pub mod Names
pub mod Machine
pub mod Told
pub mod Loaded
pub mod Listed
