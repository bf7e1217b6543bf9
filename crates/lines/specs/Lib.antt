pub mod Window
pub mod Fields
pub mod Digits
pub mod Bytes
