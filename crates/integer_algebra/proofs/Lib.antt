-- The lemmas of the crate.
pub mod Ring
pub mod Order
pub mod Floors
