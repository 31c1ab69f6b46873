-- The lemmas of this crate.
pub mod ListedLemmas
pub mod QueryTextLemmas
pub mod QueryTextRows
pub mod SelectionLemmas
pub mod ProductLawLemmas
pub mod SelectionRows
