-- The definitions of the crate.
pub mod Harm
pub mod Law
pub mod Verdict
