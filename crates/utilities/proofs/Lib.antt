-- What the proofs of several functions, and of the crates above, cite.
pub mod Firsts
pub mod Distinct
pub mod Members
pub mod Built
pub mod Repeated
pub mod Begins
pub mod Hints
pub mod Mapped
