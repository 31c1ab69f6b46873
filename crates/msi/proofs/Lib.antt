-- The lemmas of this crate.
-- The lemmas of the crates below, which proofs above cite.
pub use Rattle.msi_container_format.proofs.PlanOnceLemmas
pub use Rattle.msi_base.proofs.ListLemmas
pub use Rattle.msi_summary.proofs.KeptSetLemmas
pub use Rattle.msi_summary.proofs.ReadBackLemmas
pub use Rattle.msi_database.proofs.RefusedLemmas
pub use Rattle.msi_container_format.proofs.NamesLemmas
pub use Rattle.msi_database_schema.proofs.KeyLemmas
pub use Rattle.msi_database_storage.proofs.StreamLemmas
pub mod named_streams
pub mod writing
pub mod reading
pub mod meaning
pub mod packages
pub mod calls_in_turn
pub mod worked_rows
