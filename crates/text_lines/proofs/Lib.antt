-- The lemmas of the crate.
pub mod Counts
pub mod Cuts
pub mod Ends
