-- The parts of a file: its tree, its entries, its streams.
pub mod TreeLemmas
pub mod KindLemmas
pub mod ListingLemmas
pub mod ListLemmas
pub mod PassedLemmas
