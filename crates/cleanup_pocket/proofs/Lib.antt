-- The lemmas of the crate.
pub mod Ahead
pub mod Axes
pub mod Floored
pub mod Growing
pub mod Lines
pub mod Near
pub mod Places
pub mod Runs
pub mod Shifted
pub mod Skips
pub mod Sound
pub mod Steps
pub mod StoredPlaces
