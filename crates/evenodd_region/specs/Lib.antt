-- The definitions of the crate.
pub mod Bounds
pub mod Layouts
pub mod Lookup
pub mod Meetings
pub mod Parity
pub mod Ratios
pub mod RowBits
pub mod SafeMoves
pub mod TwoDrawings
