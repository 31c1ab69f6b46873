-- The words of this crate.
pub mod Extents
pub mod Image
pub mod Balance
pub mod SpelledParts
pub mod Layout
pub mod LayoutLaw
pub mod Index
pub mod Regions
pub mod Sectors
pub mod Borrowed
