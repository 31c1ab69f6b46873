-- The pool under changes: texts that cells take and give back, and their counts.
pub mod CellLemmas
pub mod RowsLemmas
pub mod TablesLemmas
pub mod CountingLemmas
pub mod TextCountLemmas
pub mod RecountingLemmas
pub mod PoolStepLemmas
pub mod NarrowLemmas
