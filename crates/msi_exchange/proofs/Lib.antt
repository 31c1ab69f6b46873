-- The lemmas of this crate.
pub mod ListLemmas
pub mod PlaceLemmas
pub mod CheckLemmas
pub mod CharacterLemmas
pub mod NumeralLemmas
pub mod LineLemmas
pub mod FieldLemmas
pub mod TypeFieldLemmas
pub mod MeaningLemmas
pub mod PushedLemmas
pub mod WrittenLemmas
pub mod WritableLemmas
mod TextArchiveRows
mod JsonLemmas
mod CsvLemmas
mod RowLawLemmas
mod WorkedRows
mod TableLemmas
