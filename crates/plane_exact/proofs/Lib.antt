-- The lemmas of the crate.

-- numbers of machine words
pub mod Stored
pub mod Ranges
pub mod Wide
pub mod Signs
-- `is_same_point`
pub mod Differing
-- `dist_at_least`
pub mod Fractions
pub mod Ways
pub mod Nearest
pub mod Apart
-- `passes_through`
pub mod Collinear
-- `cross_kind`
pub mod Places
pub mod Slants
pub mod Overlaps
pub mod Turned
