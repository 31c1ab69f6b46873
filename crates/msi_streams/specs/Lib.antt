-- The words of this crate.
pub mod Cursor
pub mod Refusals
pub mod Listing
