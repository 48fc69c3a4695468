-- The lemmas of the crate.
pub mod Keeping
pub mod Stepping
pub mod Upright
pub mod Worth
