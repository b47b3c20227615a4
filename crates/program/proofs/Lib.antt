-- The laws of an image's tests, and of its words.
pub mod Tests
pub mod Entries
pub mod Images
pub mod Layouts
pub mod Worked
