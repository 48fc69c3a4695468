-- The definitions of the crate.
pub mod Boxes
pub mod Words
