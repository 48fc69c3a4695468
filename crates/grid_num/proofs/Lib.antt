-- The lemmas of the crate.
pub mod Digits
pub mod Front
pub mod Points
pub mod Powers
pub mod Roots
pub mod Rounding
pub mod Runs
pub mod Sides
pub mod Texts
