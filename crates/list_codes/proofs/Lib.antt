-- What the proofs of several functions cite.
pub mod Numbers
pub mod Codes
