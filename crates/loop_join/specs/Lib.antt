-- The definitions of the crate.
pub mod Cells
pub mod Ends
pub mod Even
pub mod Index
pub mod Join
pub mod Keeping
pub mod Law
pub mod Once
pub mod Places
pub mod Snap
pub mod SnapLaw
pub mod Walks
