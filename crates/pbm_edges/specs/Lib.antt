-- The definitions of the crate.
pub mod Boundary
pub mod Faults
pub mod Header
pub mod Law
pub mod Packed
pub mod Pbm
pub mod Pixels
pub mod Same
pub mod State
pub mod Stored
