-- The definitions of the crate.
pub mod Along
pub mod Around
pub mod Clearance
pub mod Deepest
pub mod Greatest
pub mod Kept
pub mod Law
pub mod Least
pub mod Met
pub mod Parts
pub mod Ticks
pub mod Together
