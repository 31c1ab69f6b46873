-- The words of this crate.
pub mod Copied
pub mod Reading
pub mod Tables
pub mod Extents
pub mod Views
