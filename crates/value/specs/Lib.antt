-- The definitions that the contracts of `value` cite, and worked cases of them. Definitions only.
pub mod Int
pub mod Double
pub mod Cast
pub mod Cases
