pub mod Standing
pub mod Code
pub mod Least
