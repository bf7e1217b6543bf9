-- What the proofs of several functions cite.
pub mod Zeros
pub mod Heads
