-- The definitions of the crate.
pub mod Corners
pub mod Faults
pub mod Kept
pub mod Outline
pub mod Pairs
pub mod Polyline
pub mod Shapes
pub mod State
pub mod Texts
pub mod Values
