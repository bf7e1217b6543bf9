-- What the proofs of several functions, and of the crates above, cite.
pub mod Widths
pub mod Signs
pub mod Patterns
pub mod SignBit
pub mod Appends
pub mod Deliveries
pub mod Round
pub mod Reread
