-- The lemmas of the crate.
pub mod Alls
pub mod CutBits
pub mod CutCounts
pub mod CutGrids
pub mod CutPlaces
pub mod JoinedRuns
pub mod LatticePoints
pub mod Lattices
pub mod Places
pub mod Reports
pub mod RowPoints
pub mod RunsFrom
pub mod SetCounts
pub mod TakenRows
