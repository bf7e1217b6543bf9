-- What the proofs of several functions cite.
pub mod Turns
pub mod Filled
pub mod Gathering
pub mod Gathered
pub mod Least
