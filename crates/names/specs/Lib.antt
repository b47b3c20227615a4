-- What the parts of an interning come to.
pub mod Interned
