-- The lemmas of the crate.
pub mod Aparts
pub mod ClearedBits
pub mod Few
pub mod FlatAhead
pub mod FloorChains
pub mod FloorReports
pub mod Floored
pub mod MarkedRows
pub mod Milling
pub mod Nearer
pub mod Neighbours
pub mod Passing
pub mod PushedMoves
pub mod Rooms
pub mod Steps
pub mod Sweeping
pub mod SweptChains
