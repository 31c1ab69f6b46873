-- The plan of a file: its parts, its tree, its streams.
pub mod PlanPartsLemmas
pub mod OutlineLemmas
pub mod KeptBytesLemmas
pub mod StorageLemmas
pub mod StorageListLemmas
pub mod ReachedLemmas
