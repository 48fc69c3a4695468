-- The lemmas of the crate.

-- building
mod AddedEntries
mod AddingLaws
mod PackLaws
-- asking
mod AskedLaws
mod CellLaws
mod HitLaws
-- loops over the answer, for callers
pub mod NearLaws
