-- The words of this crate.
pub mod RowStreams
pub mod KeyOfRows
pub mod RowChanges
pub mod RowsInHand
pub mod RecordRefusals
pub mod TableRecords
