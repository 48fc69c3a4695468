-- The definitions of the crate.
pub mod Law
pub mod Link
pub mod Midway
