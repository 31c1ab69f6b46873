-- What deleting rows does, and when it is refused.
use Rattle.std.specs.Prelude.{Bool, true, false, not, List, [], ◌∷◌, ◌++◌, filter, Option, Result}
use Rattle.msi_base.specs.declared.errors.ErrorKind.{ErrorKind}
use Rattle.msi_base.specs.declared.errors.ErrorKind.TheVariants.{InvalidInput, NotFound}
use Rattle.msi_pool.specs.Pool.{Place}
use Rattle.msi_base.specs.Refusals.{Refusals, unless_refused, or_refused, ◌>>=◌}
use Rattle.msi_table_cells.specs.declared.cell.ValueRef.{ValueRef}
use Rattle.msi_table_cells.specs.CellValues.{row_values}
use Rattle.msi_query_expressions.specs.Expressions.{Expression}
use Rattle.msi_query.specs.Queries.{DeleteQuery}
use Rattle.msi_query_expressions.specs.Conditions.{meets}
use Rattle.msi_query.specs.Selection.{has_columns, condition_names}
use Rattle.msi_database_schema.specs.System.{is_system_table}
use Rattle.msi_database_changes.specs.Database.{Database, table_at, rows_of, same_bool}
use Rattle.msi_table_cells.specs.TableCells.{TableCells}
use Rattle.msi_database_changes.specs.Changes.{Change, no_change, pool_of, with_stored, barred_refusals, missing_or}
use Rattle.msi_database_changes.specs.Texts.{rows_released}

-- Delete
abbrev pub rows_meeting : List Place → TableCells → Option Expression → Bool → List (List ValueRef)
rows_meeting places t condition wanted =
    filter (λ row. same_bool (meets t.columns condition (row_values places row)) wanted) (rows_of t)

abbrev pub rows_deleted : TableCells → DeleteQuery → Change → Change
rows_deleted t q c = let places = c.database.pool.places in
    with_stored q.table t.columns (rows_meeting places t q.condition false)
    (rows_released (pool_of c) (rows_meeting places t q.condition true)) c

abbrev pub condition_refusals : TableCells → DeleteQuery → Refusals
condition_refusals t q = (not (has_columns t.columns (condition_names q.condition)), InvalidInput) ∷ []

-- what refuses a delete: telling it takes no memory
abbrev pub early_delete_refusals : Database → DeleteQuery → Refusals
early_delete_refusals d q = barred_refusals d (is_system_table q.table)
    ++ missing_or (table_at q.table d) (λ t. condition_refusals t q)

abbrev pub delete_rows : Database → DeleteQuery → Result Change ErrorKind
delete_rows d q = unless_refused (barred_refusals d (is_system_table q.table)) (no_change d) >>=
    λ c. or_refused NotFound (table_at q.table d) >>=
    λ t. unless_refused (condition_refusals t q) (rows_deleted t q c)
