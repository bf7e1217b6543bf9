-- What the proofs of several functions cite.
pub mod Deliveries
pub mod Answers
pub mod Columns
