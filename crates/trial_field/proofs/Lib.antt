-- The lemmas of the crate.
pub mod Cells
pub mod Fitting
