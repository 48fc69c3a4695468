-- The definitions of the crate.
pub mod Added
pub mod Cells
pub mod Grid
pub mod Near
pub mod Open
pub mod Packed
pub mod Walk
