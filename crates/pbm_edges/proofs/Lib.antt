-- The lemmas of the crate.
pub mod Alike
pub mod Differing
pub mod Lines
pub mod Longest
pub mod Packing
pub mod Scan
pub mod Steady
