pub mod Names
pub mod Signed
