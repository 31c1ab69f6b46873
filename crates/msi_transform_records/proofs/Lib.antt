-- The lemmas of this crate.
pub mod BitLemmas
pub mod ToldLemmas
pub mod CellsLemmas
pub mod LeadingLemmas
pub mod MaskLemmas
pub mod ReadBackLemmas
pub mod SpelledLemmas
pub mod WorkedRows
