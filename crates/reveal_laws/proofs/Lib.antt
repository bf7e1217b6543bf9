-- What the proofs of several functions cite.
pub mod Puts
pub mod Two
pub mod Walks
pub mod Cases
pub mod Codes
pub mod Alike
pub mod SameRights
pub mod AsPlanned
