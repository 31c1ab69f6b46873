-- Where the parts of a layout lie, and how many sectors they take.
pub mod LaidLemmas
pub mod LaidPartsLemmas
pub mod LayoutLemmas
pub mod LayoutRows
pub mod PlacedLemmas
pub mod TotalsLemmas
pub mod RangeLemmas
pub mod ZippedLemmas
