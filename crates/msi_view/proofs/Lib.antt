-- The lemmas of this crate.
pub mod catalog_lemmas
pub mod loading_lemmas
pub mod query_lemmas
pub mod LawLemmas
pub mod SelectLemmas
pub mod ViewLemmas
