-- The directory: its entries, their tree, and its sectors.
pub mod BalanceLemmas
pub mod CollectedLemmas
pub mod DirectoryBoundsLemmas
pub mod DirectoryLengthLemmas
pub mod DirectorySectorLemmas
pub mod EntriesLemmas
pub mod PutPiecesLemmas
