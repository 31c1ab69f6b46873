-- What a database keeps beside its soundness.
use Rattle.std.specs.List.{AllByRecursion}
use Rattle.msi_table_values.specs.Columns.{types_of}
use Rattle.msi_table_cells.specs.Fitting.{FitsRow}
use Rattle.msi_database_schema.specs.System.{validation_columns}
use Rattle.msi_database_changes.specs.Database.{Database}
use Rattle.msi_database_changes.proofs.steps.StoredLemmas.{WellFormed}
use Rattle.msi_database_changes.proofs.steps.TracksLemmas.{AllFit}

-- it is well formed, and each cell fits its column; those of a `_Validation` that isn't listed fit the standard ones
pub record IsRegular (d : Database) : Type 0 where
  pub well : WellFormed d
  pub fit : AllFit d
  pub unlisted : AllByRecursion (FitsRow d.pool.long (types_of validation_columns)) d.unlisted_validation
