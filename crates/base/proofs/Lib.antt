-- What the proofs of several functions, and of the crates above, cite.
pub mod Flags
pub mod Ends
pub mod Numbers
pub mod Forms
pub mod Stands
pub mod Groups
pub mod Holding
pub mod Passed
pub mod Permitted
pub mod Natures
pub mod Lists
pub mod EndToEnd
pub mod Told
