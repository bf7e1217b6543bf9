-- What the proofs cite.
pub mod Mapped
pub mod United
