-- The census of all cells, and the counts that it gives.
use Rattle.std.proofs.Common.{◌≡◌, ℕ, ◌<◌, Bool, true, List, [], length, Option, is_some, unwrap_or, sym, ap, subst, ◌∙◌, arith}
use Rattle.std.specs.Prelude.{if◌then◌else◌}
use Rattle.std.proofs.lemmas.List.{ext_get_or}
use Rattle.msi_table_cells.specs.declared.cell.ValueRef.{ValueRef}
use Rattle.msi_table.specs.Tables.{rows_spelled, TableDef}
use Rattle.msi_table.specs.Census.{CensusDef, CountsMore, IsCensus, numbers_of_rows}
use Rattle.msi_table.proofs.CensusLemmas.{all_counted}
use Rattle.msi_database_schema.specs.Keys.{table_key}
use Rattle.msi_database_schema.specs.Schema.{table_with}
use Rattle.msi_database_schema.specs.System.{validation_columns, validation_name}
use Rattle.msi_database_changes.specs.Database.{Database, named_numbers}
use Rattle.msi_database_changes.specs.Recounting.{cell_counts, counts_fit}
use Rattle.msi_database_changes.proofs.text_counts.RecountingLemmas.{cells_at, many_counts}
use Rattle.msi_database_storage.specs.Kept.{table_kept_at, unlisted_kept}
use Rattle.msi_database_storage.specs.Streams.{Streams, stored_rows, stream_at}

-- THE STREAM OF `_Validation`

-- where that is a table, nothing is kept beside the tables, and else its rows are those of its stream
pub unlisted_counted : (streams : Streams) (standard : TableDef) (tables : List TableDef) (bytes : List ℕ) (before after : CensusDef) (b : Bool) → b ≡ is_some (table_kept_at validation_name tables)
    → standard ≡ table_with standard.long (validation_name, validation_columns) → bytes ≡ unwrap_or (stream_at (table_key validation_name) streams) []
    → CountsMore (numbers_of_rows (if b then [] else unwrap_or (rows_spelled standard bytes) [])) before after → CountsMore (numbers_of_rows (unlisted_kept streams standard.long tables)) before after
unlisted_counted streams standard tables bytes before after b is standard_is bytes_are more =
    subst (λ b. CountsMore (numbers_of_rows (if b then [] else unwrap_or (stored_rows streams standard.long validation_columns validation_name) [])) before after) is
    (subst (λ (o : Option (List (List ValueRef))). CountsMore (numbers_of_rows (if b then [] else unwrap_or o [])) before after)
    (ap (rows_spelled standard) bytes_are ∙ ap (λ (t : TableDef). rows_spelled t (unwrap_or (stream_at (table_key validation_name) streams) [])) standard_is) more)

-- COUNTS

module _ (d : Database) (census : CensusDef) (is : IsCensus (length d.pool.places) (named_numbers d) census) where
  pub counts_fit_is : census.fits ≡ counts_fit d
  counts_fit_is = is.fits

  -- where it fits, no count ended early
  pub counts_are : census.fits ≡ true → census.counts ≡ cell_counts d
  counts_are fit = ext_get_or 0 census.counts (cell_counts d) (is.many_counts ∙ sym (many_counts d))
      (λ i inside. let within : i < length d.pool.places = omega (arith, inside, is.many_counts) in all_counted (length d.pool.places) (named_numbers d) census is fit i within ∙ sym (cells_at d i within))
