-- What the proofs of several functions cite.
pub mod Passing
pub mod Delivered
