-- The definitions of the crate.
pub mod Commands
pub mod Drawing
pub mod Due
pub mod Given
pub mod Judging
pub mod Line
pub mod Loaded
pub mod Outcome
pub mod Programs
pub mod Refusals
pub mod Stored
pub mod Streamed
pub mod Top
