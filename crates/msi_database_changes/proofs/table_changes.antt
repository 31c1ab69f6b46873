-- Tables that are created and dropped.
pub mod CreateLemmas
pub mod CreateRowsLemmas
pub mod CreateTracksLemmas
pub mod CreatedLemmas
pub mod CreatingLemmas
pub mod AcceptedTableLemmas
pub mod DropLemmas
pub mod DropRowsLemmas
pub mod DropTracksLemmas
pub mod DroppedLemmas
pub mod UnlistedLemmas
pub mod LongerTableLemmas
pub mod ColumnAddedLemmas
pub mod ColumnDescribedLemmas
