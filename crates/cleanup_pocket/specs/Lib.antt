-- The definitions of the crate.
pub mod Fault
pub mod Floors
pub mod Kept
pub mod Law
pub mod Pocket
pub mod Runs
pub mod Walk
