-- What the proofs of both kinds cite.
pub mod Rules
pub mod Answers
pub mod Signs
