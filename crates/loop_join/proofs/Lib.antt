-- The lemmas of the crate.
pub mod Counted
pub mod Degrees
pub mod Drawn
pub mod Flips
pub mod Indexed
pub mod Joined
pub mod Keys
pub mod Leasts
pub mod Movings
pub mod Opens
pub mod Places
pub mod Results
pub mod Same
pub mod Slots
pub mod Snaps
