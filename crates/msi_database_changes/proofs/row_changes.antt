-- Rows that are inserted, updated and deleted.
pub mod InsertLemmas
pub mod InsertedLemmas
pub mod InsertingLemmas
pub mod NamedRowLemmas
pub mod RowFitLemmas
pub mod UpdateLemmas
pub mod UpdatedLemmas
pub mod RowUpdateLemmas
pub mod UpdateFitsLemmas
pub mod SetCellsLemmas
pub mod SettingLemmas
pub mod DeleteLemmas
pub mod RemovedRowsLemmas
