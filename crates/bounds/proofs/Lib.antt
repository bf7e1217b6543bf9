-- What the proofs of several functions cite.
pub mod Asks
pub mod Zeros
