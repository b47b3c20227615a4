-- The names of an image, interned.
pub mod Named
