-- The lemmas of this crate.
pub mod NameLemmas
pub mod CursorLemmas
pub mod CursorRows
pub mod ListingRows
