-- What a run and a reply come to in the text.
pub mod Texts
