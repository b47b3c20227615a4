-- Sections joined and cut again; the ends of a text's tables.
pub mod Joins
pub mod Rising
