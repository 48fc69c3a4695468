-- The lemmas of the crate.
pub mod Counting
pub mod Faults
pub mod Going
pub mod Lists
pub mod Paths
pub mod Planned
pub mod Refused
pub mod Rounding
pub mod Sound
pub mod Staying
pub mod Taking
pub mod Totals
pub mod Visiting
