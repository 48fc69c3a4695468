-- The lemmas of the crate.

-- the first law of docs/PROOFS.md, step by step
pub mod Hits
pub mod Meetings
pub mod Ray
pub mod Border
pub mod Removing
-- a motion over a part of its moments: both laws
pub mod Parts
pub mod Staying
pub mod Sweeps
pub mod Distances
pub mod Touching
-- and a motion between two places
pub mod Motions
pub mod Runs
pub mod Successive
-- an edge beside a motion
pub mod Boxes
pub mod Aside
pub mod Reaches
-- moves in tenths, against the edges of a drawing
pub mod Moves
-- the code's numbers
pub mod Widths
pub mod Ways
pub mod Clearances
pub mod Products
pub mod Deepest
-- which points a move removes, by three products
pub mod Nappe
pub mod Dips
pub mod Cuts
-- what a move removes of a row, and the rows that it can reach
pub mod Convex
pub mod Sights
pub mod Middles
pub mod Rows
pub mod Searches
pub mod Bands
