-- The lemmas of this crate.
pub mod LanguageRowsLemmas
pub mod CategoryRulesLemmas
