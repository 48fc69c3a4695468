-- The lemmas of the crate.
pub mod Gaps
pub mod Indexes
pub mod Searches
pub mod Slots
pub mod Taking
pub mod Tours
pub mod Places
pub mod Listed
