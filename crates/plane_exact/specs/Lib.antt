-- The definitions of the crate.
pub mod Cone
pub mod Distance
pub mod Heights
pub mod Meet
pub mod Moves
pub mod Nodes
pub mod Plane
pub mod Product
pub mod Same
pub mod Uncut
