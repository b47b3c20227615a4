-- The image runner of document 01, from the text of an image to the text of its report.
pub mod Runner
pub mod Shown
pub mod Cases
