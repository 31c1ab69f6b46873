-- The words of this crate.
pub mod LeftOut
pub mod Making
pub mod Telling
