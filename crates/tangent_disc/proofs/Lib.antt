-- The lemmas of the crate.
pub mod Along
pub mod Beyond
pub mod Centres
pub mod Distances
pub mod Floors
pub mod Free
pub mod Lengths
pub mod Listing
pub mod Reach
pub mod Searches
pub mod Touches
