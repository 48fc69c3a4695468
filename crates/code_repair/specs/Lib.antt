-- The definitions of the crate.
pub mod Fault
pub mod Law
pub mod Repair
pub mod Walk
