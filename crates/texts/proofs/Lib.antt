-- What the proofs of several functions, and of the crates above, cite.
pub mod Codes
pub mod Bytes
pub mod Lying
pub mod Noting
