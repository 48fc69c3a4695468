-- The lemmas of the crate.
pub mod Characters
pub mod Continuing
pub mod Digits
pub mod Encoded
pub mod Farthest
pub mod Finding
pub mod OffGrid
pub mod Rounded
