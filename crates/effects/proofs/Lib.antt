-- The laws of what an instruction asks for; `Inside`, that it stays inside the image, is for callers.
pub mod Asks
pub mod Inside
