-- What each call comes to, and what it leaves in the words.
pub mod Serving
pub mod Carried
