-- What the proofs of several functions cite.
pub mod Packed
pub mod Showing
