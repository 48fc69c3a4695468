-- The lemmas of the crate.
pub mod Drawn
pub mod Few
pub mod Kept
pub mod Streams
pub mod Taking
pub mod Through
pub mod Walking
