-- The lemmas of the crate.
pub mod Along
pub mod Cutting
pub mod Ends
pub mod Engraved
pub mod Going
pub mod Straight
