-- The lemmas of the crate.
pub mod Bounded
pub mod Circles
pub mod Roots
pub mod Splits
pub mod Stages
pub mod Steps
pub mod Straight
