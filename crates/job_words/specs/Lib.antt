-- The definitions of the crate.
pub mod Command
pub mod Commands
pub mod Options
pub mod Plain
pub mod Request
pub mod Shape
pub mod Values
