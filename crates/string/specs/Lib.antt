-- The definitions that the contracts of `string` cite.
pub mod Hash
pub mod Payload
pub mod Cases
