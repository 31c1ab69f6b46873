-- The lemmas of this crate.
pub mod ColumnLemmas
pub mod ColumnTypesLemmas
pub mod TypeBitsLemmas
pub mod ValidValuesLemmas
pub mod WorkedRows
