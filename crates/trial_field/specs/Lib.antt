-- The definitions of the crate.
pub mod Field
pub mod Room
