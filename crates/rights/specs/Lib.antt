pub mod Rights
pub mod Reveal
pub mod Code
