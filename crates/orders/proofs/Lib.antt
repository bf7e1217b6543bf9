-- What the proofs of several functions, and of the crates above, cite.
pub mod Refusals
pub mod Orders
pub mod Passing
