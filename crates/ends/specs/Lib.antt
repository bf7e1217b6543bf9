pub mod Ends
pub mod Code
pub mod Ranges
pub mod Signs
