-- Names interned one after the other.
pub mod Interning
