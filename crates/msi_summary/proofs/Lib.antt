-- The lemmas of this crate.
pub mod SummaryReadLemmas
pub mod BraceLemmas
pub mod KeywordLemmas
pub mod NumeralLemmas
pub mod TemplateLemmas
mod SummaryRows
-- The lemmas of the crates below, which proofs above cite.
pub use Rattle.msi_summary_properties.proofs.ReadBackLemmas
pub use Rattle.msi_summary_properties.proofs.KeptSetLemmas
pub use Rattle.msi_summary_properties.proofs.PropertiesLemmas
