-- The lemmas of the crate.
pub mod Halfway
pub mod Leading
pub mod Linking
pub mod Single
