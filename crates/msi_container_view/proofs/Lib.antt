-- The lemmas of this crate.
pub mod copies
pub mod extent_lemmas
pub mod located_lemmas
pub mod outline_lemmas
pub mod table_lemmas
pub mod FillLemmas
pub mod HeaderLemmas
pub mod ViewLemmas
