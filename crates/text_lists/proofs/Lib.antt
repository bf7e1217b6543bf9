-- What the proofs of several functions cite.
pub mod Columns
pub mod Lies
pub mod Written
