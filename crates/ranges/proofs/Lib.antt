-- What the proofs of several functions, and of the crates above, cite.
pub mod Alone
pub mod Spread
pub mod Chain
pub mod Sheets
