-- What is claimed of a machine that is handed back as it was left.
pub mod Standing
