-- The lemmas of this crate.
pub mod Utf8Lemmas
pub mod TokenLemmas
pub mod SymbolLemmas
pub mod StepLemmas
pub mod CutLemmas
pub mod NameLemmas
pub mod LeadsLemmas
