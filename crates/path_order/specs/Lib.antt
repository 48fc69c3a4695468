-- The definitions of the crate.
pub mod Entries
pub mod Extents
pub mod Found
pub mod Index
pub mod Left
pub mod Order
