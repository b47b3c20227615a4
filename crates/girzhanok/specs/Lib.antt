-- The library of terminals, defined: what each call returns and leaves.
pub mod Served
