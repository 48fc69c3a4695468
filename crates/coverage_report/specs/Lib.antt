-- The definitions of the crate.
pub mod Counts
pub mod Cuts
pub mod Lattices
pub mod Marked
pub mod Points
pub mod Report
pub mod RowRuns
pub mod Rows
pub mod Runs
pub mod Taken
