pub mod ColumnKeysLemmas
pub mod ColumnStepsLemmas
pub mod PackagePartsLemmas
pub mod TablesByNameLemmas
pub mod PlainRowsLemmas
