-- The definitions of the crate.
pub mod Chains
pub mod Fault
pub mod Law
pub mod Made
pub mod Plan
pub mod Pockets
pub mod Stops
