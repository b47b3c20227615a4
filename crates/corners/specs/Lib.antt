-- The cases of document 01 that are marked (P), in one table.
pub mod Cases
