-- The lemmas of the crate.
pub mod Accepting
pub mod Apps
pub mod CarveLaw
pub mod CheckLaw
pub mod ContactsLaw
pub mod CoverLaw
mod FlatLaw
mod FlattenLaw
pub mod Forms
pub mod Laws
pub mod MovesLaw
pub mod ProbeLaw
pub mod Requests
pub mod Rows
pub mod Steps
mod RepairLaw
mod StrokesLaw
mod TrialLaw
pub mod Walks
