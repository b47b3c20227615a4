-- An image as it is lent.
pub mod Image
pub mod Words
