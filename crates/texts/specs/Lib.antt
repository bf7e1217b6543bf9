pub mod Joins
pub mod Code
