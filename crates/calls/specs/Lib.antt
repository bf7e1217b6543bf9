pub mod Natures
pub mod Derive
pub mod Single
pub mod Walk
