-- The definitions of the crate.
pub mod Decimal
pub mod Front
pub mod Judging
pub mod Real
pub mod Root
pub mod Rounding
pub mod Units
pub mod Whole
pub mod Written
