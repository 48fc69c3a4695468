-- The lemmas of the crate.
pub mod Ahead
pub mod Aside
pub mod Bisection
pub mod Boxes
pub mod Clearances
pub mod Crossings
pub mod Deepening
pub mod DeepestDepths
pub mod Judged
pub mod Leasts
pub mod Mets
pub mod Multiples
pub mod Parts
pub mod Safety
pub mod Exact
pub mod Following
