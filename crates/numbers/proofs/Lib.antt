-- What the proofs of several functions, and of the crates above, cite.
pub mod Parts
pub mod Products
pub mod Bits
pub mod Laws
pub mod Results
pub mod Choices
