-- What the proofs of several functions cite.
pub mod Clear
pub mod Never
pub mod Plans
pub mod Unreached
pub mod Numberless
pub mod NodeBytes
