-- The definitions of the crate.
pub mod Bounds
pub mod Chains
pub mod Cut
pub mod Disc
pub mod Law
pub mod Moves
