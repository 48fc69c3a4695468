-- The definitions of the crate.
pub mod Arcs
pub mod Bulges
pub mod Directions
pub mod Grid
pub mod Halves
pub mod Points
pub mod Segments
pub mod Turns
