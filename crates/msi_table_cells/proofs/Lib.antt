-- The lemmas of this crate.
pub mod StableSortLemmas
pub mod RowOrderLemmas
pub mod SortedFitsLemmas
pub mod SortedRowsLemmas
pub mod FittingLemmas
pub mod StoredValuesLemmas
