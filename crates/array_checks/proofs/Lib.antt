-- What the proofs of several functions cite.
pub mod Gathering
pub mod Running
pub mod Falling
pub mod Words
pub mod Finite
pub mod Marked
