-- The definitions of the crate.
pub mod Floors
pub mod Ranges
