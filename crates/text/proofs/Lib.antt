-- Laws of the texts of images.
pub mod Numbers
pub mod Splitting
pub mod Sizes
pub mod Naming
pub mod Entries
pub mod Laying
pub mod WellFormed
pub mod Counting
pub mod Gathering
pub mod Tables
pub mod Listing
