-- The definitions of the crate.
pub mod Blanks
pub mod Cutting
pub mod Pieces
