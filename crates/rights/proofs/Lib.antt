-- What the proofs of several functions cite.
pub mod Owned
pub mod Admitting
pub mod Rules
