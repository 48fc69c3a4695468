-- The definitions of the crate.
pub mod Drawn
pub mod Elements
pub mod Faults
pub mod Fonts
pub mod Glyphs
pub mod Grammar
pub mod Keys
pub mod Laws
pub mod Lay
pub mod Layouts
pub mod Letters
pub mod Lines
pub mod Placing
pub mod State
