-- What the proofs of several functions cite.
pub mod Listing
pub mod Joined
