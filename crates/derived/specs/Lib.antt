pub mod Held
pub mod Infinite
pub mod Repeats
