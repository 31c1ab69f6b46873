-- The words of this crate.
pub mod Actions
pub mod Cells
pub mod Reading
pub mod Records
pub mod RecordCells
pub mod Laws
