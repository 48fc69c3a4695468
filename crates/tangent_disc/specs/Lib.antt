-- The definitions of the crate.
pub mod Contacts
pub mod Law
pub mod OpenDisc
pub mod Pieces
pub mod Roots
pub mod Tangent
pub mod Touch
pub mod Ways
