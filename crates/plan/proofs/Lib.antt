-- What the proof of a plan cites.
pub mod Taken
