-- The lemmas of the crate.
pub mod Safety
pub mod Exact
pub mod Verdicts
