-- What the proof of `step_pool` cites.
pub mod Early
pub mod Pooled
