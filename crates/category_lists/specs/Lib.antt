pub mod Categories
pub mod Columnwise
pub mod Answers
