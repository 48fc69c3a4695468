-- The definitions of the crate.
pub mod Crossing
pub mod Edges
pub mod Faults
pub mod Grammar
pub mod Kept
pub mod Writing
