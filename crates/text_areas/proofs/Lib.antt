-- What the proofs of several functions, and of the crate above, cite.
pub mod Sizes
pub mod Laying
