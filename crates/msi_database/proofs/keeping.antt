-- What a kept database is, and that accepted changes keep it.
pub mod KeepingLemmas
pub mod KeptLawLemmas
pub mod KeptPartsLemmas
pub mod TablesKeptLemmas
pub mod PageLemmas
pub mod OtherStreamLemmas
pub mod OwnNamesLemmas
pub mod StreamEntriesLemmas
pub mod WholeTableLemmas
pub mod AcceptedChangeLemmas
pub mod AcceptedRowChangeLemmas
pub mod AcceptedTableChangeLemmas
pub mod RecountingLemmas
