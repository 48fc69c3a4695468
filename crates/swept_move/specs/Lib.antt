-- The definitions of the crate.
pub mod Band
pub mod Beside
pub mod Clear
pub mod Convex
pub mod Dip
pub mod Law
pub mod Middle
pub mod Motion
pub mod Part
pub mod Range
pub mod Reach
pub mod Row
pub mod Search
pub mod Sweep
