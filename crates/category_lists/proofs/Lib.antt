-- What the proofs of several functions cite.
pub mod Operands
pub mod Columnwise
pub mod Gathering
pub mod Ruled
pub mod Noting
pub mod Distinct
