-- The definitions of the crate.
pub mod Counts
pub mod Files
pub mod Output
pub mod Loading
pub mod Sure
pub mod Memory
