-- The lemmas of this crate.
pub mod keeping
pub mod soundness
pub mod opening
pub mod calls
pub mod table_changes
pub mod widths
pub mod CellsCensusLemmas
pub mod LongRowsLemmas
pub mod FreshCallLemmas
pub mod FreshMadeLemmas
pub mod FreshStepLemmas
pub mod TransformingLemmas
pub mod TransformedLemmas
pub mod TransformMakingLemmas
-- The lemmas of the crates below, which proofs above cite.
pub use Rattle.msi_database_changes.proofs.steps.RefusedLemmas
pub use Rattle.msi_database_changes.proofs.describing.SchemaKeptLemmas
pub use Rattle.msi_database_changes.proofs.describing.DescribingLemmas
pub use Rattle.msi_database_changes.proofs.describing.ShownTablesLemmas
pub use Rattle.msi_database_changes.proofs.steps.AtWidthLemmas
pub use Rattle.msi_database_changes.proofs.row_changes.InsertLemmas
pub use Rattle.msi_database_changes.proofs.row_changes.UpdateLemmas
pub use Rattle.msi_database_changes.proofs.row_changes.DeleteLemmas
pub use Rattle.msi_database_changes.proofs.describing.ShownChangesLemmas
pub use Rattle.msi_database_changes.proofs.table_changes.ColumnAddedLemmas
pub use Rattle.msi_database_changes.proofs.soundness.LawLemmas
