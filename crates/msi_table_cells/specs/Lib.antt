-- The words of this crate.
pub mod CellValues
pub mod CellOrder
pub mod CellOrderLaws
pub mod Fitting
pub mod StoredValues
pub mod TableCells
pub mod StoredOrder
pub mod KeyOrder
pub mod SortedRows
