pub mod KeyedRowsLemmas
pub mod RowStreamsLemmas
pub mod ToldValuesLemmas
pub mod RowChangesLemmas
