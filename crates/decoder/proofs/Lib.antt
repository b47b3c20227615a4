-- Laws of the decoder.
pub mod Mapped
