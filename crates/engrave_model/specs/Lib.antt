-- The definitions of the crate.
pub mod Crossing
pub mod Depth
pub mod Drawing
pub mod Inside
pub mod Lists
pub mod Removal
