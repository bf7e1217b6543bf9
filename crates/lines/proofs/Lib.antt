pub mod Splits
pub mod Texts
