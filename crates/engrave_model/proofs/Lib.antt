-- The lemmas of the crate.
pub mod Discs
pub mod Outline
