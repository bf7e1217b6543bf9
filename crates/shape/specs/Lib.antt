pub mod Shape
pub mod Fields
pub mod Asked
