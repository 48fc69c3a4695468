-- The lemmas of the crate.
mod Counted
mod FourTests
mod Fronts
mod Zipped
