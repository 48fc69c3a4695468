-- The definitions of the crate.
pub mod Apart
pub mod Discs
pub mod Fault
pub mod Flat
pub mod Law
pub mod Left
pub mod Target
