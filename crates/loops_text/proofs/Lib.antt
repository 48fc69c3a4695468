-- The lemmas of the crate.
pub mod Crossings
pub mod Drawings
pub mod Judged
pub mod Reading
pub mod ReadBack
