-- What updating rows does, and when it is refused.
use Rattle.std.specs.Prelude.{if◌then◌else◌, ℕ, Bool, false, not, List, [], ◌∷◌, ◌++◌, map, Option, Some, option_map}
use Rattle.std.specs.Prelude.{◌&&◌, ◌||◌, bytes_eq, codes, Result}
use Rattle.std.specs.Option.{option_map_or}
use Rattle.std.specs.List.{list_any, list_all}
use Rattle.msi_base.specs.declared.errors.ErrorKind.{ErrorKind}
use Rattle.msi_base.specs.declared.errors.ErrorKind.TheVariants.{AlreadyExists, InvalidInput, NotFound}
use Rattle.msi_base.specs.Lists.{has_pair}
use Rattle.msi_pool.specs.Pool.{Place}
use Rattle.msi_base.specs.Refusals.{Refusals, unless_refused, or_refused, ◌>>=◌}
use Rattle.msi_table_values.specs.declared.value.Value.{Value}
use Rattle.msi_table_cells.specs.declared.cell.ValueRef.{ValueRef}
use Rattle.msi_table_values.specs.Columns.{ColumnDef, column_named}
use Rattle.msi_table_values.specs.ValidValues.{is_valid_value}
use Rattle.msi_table_cells.specs.CellValues.{row_values}
use Rattle.msi_table_cells.specs.KeyOrder.{key_of, same_key}
use Rattle.msi_query.specs.Queries.{UpdateQuery}
use Rattle.msi_query_expressions.specs.Conditions.{meets}
use Rattle.msi_query.specs.Selection.{has_columns, condition_names}
use Rattle.msi_database_schema.specs.System.{validation_name, is_schema_table}
use Rattle.msi_database_changes.specs.Database.{Database, table_at, rows_of}
use Rattle.msi_table_cells.specs.TableCells.{TableCells}
use Rattle.msi_database_changes.specs.Setting.{cells_set, values_set}
use Rattle.msi_database_changes.specs.Changes.{Change, no_change, pool_of, with_stored}
use Rattle.msi_database_changes.specs.Texts.{PoolInUse, in_turn}
use Rattle.msi_database_changes.specs.Changes.{barred_refusals, missing_or}
use Rattle.msi_database_changes.specs.Widening.{widening}

-- a set names a column, which takes its value
abbrev pub set_is_valid : List ColumnDef → List ℕ × Value → Bool
set_is_valid columns s = option_map_or (λ c. is_valid_value c s.1) (column_named s.0 columns) false

abbrev pub sets_key : List ColumnDef → List (List ℕ × Value) → Bool
sets_key columns sets = list_any (λ s. option_map_or (λ c. c.is_primary_key) (column_named s.0 columns) false) sets

-- the rows as values after the update, of which the keys may not collide
abbrev pub values_after : TableCells → UpdateQuery → List (List Value) → List (List Value)
values_after t q rows = map (λ row. if meets t.columns q.condition row then values_set t.columns q.sets row
    else row) rows

-- that a column that is set isn't there or doesn't take its value, and that one of the condition isn't there
abbrev pub set_refusals : List ColumnDef → UpdateQuery → Refusals
set_refusals columns q = map (λ s. (not (set_is_valid columns s), InvalidInput)) q.sets
    ++ (not (has_columns columns (condition_names q.condition)), InvalidInput) ∷ []

-- whether a column of the key is set, and two rows would share a key
abbrev pub keys_collide : List Place → TableCells → UpdateQuery → Bool
keys_collide places t q = sets_key t.columns q.sets
    && has_pair same_key (map (key_of t.columns) (values_after t q (map (row_values places) (rows_of t))))

abbrev pub update_refusals : List Place → TableCells → UpdateQuery → Refusals
update_refusals places t q = set_refusals t.columns q ++ (keys_collide places t q, AlreadyExists) ∷ []

-- which rows are meant is judged by the texts from before the call
abbrev pub row_updated : Bool → List Place → List ColumnDef → UpdateQuery
    → PoolInUse → List ValueRef → Option (List ValueRef × PoolInUse)
row_updated long places columns q pool row =
    if meets columns q.condition (row_values places row) then cells_set long columns pool row q.sets
    else Some (row, pool)

abbrev pub rows_updated : TableCells → UpdateQuery → Change → Option Change
rows_updated t q c = option_map (λ r. with_stored q.table t.columns r.0 r.1 c)
    (in_turn (row_updated c.database.pool.long c.database.pool.places t.columns q) (pool_of c) (rows_of t))

-- of the system tables only Description in `_Validation` may be set
abbrev pub is_update_barred : UpdateQuery → Bool
is_update_barred q = is_schema_table q.table
    || (bytes_eq q.table validation_name && not (list_all (λ s. bytes_eq s.0 (codes "Description")) q.sets))

-- what refuses an update before its rows are looked at: telling it takes no memory
abbrev pub early_update_refusals : Database → UpdateQuery → Refusals
early_update_refusals d q = barred_refusals d (is_update_barred q)
    ++ missing_or (table_at q.table d) (λ t. set_refusals t.columns q)

-- an update with references as wide as they are, and one that widens them where it has to
abbrev pub update_at_width : Database → UpdateQuery → Result Change ErrorKind
update_at_width d q = unless_refused (barred_refusals d (is_update_barred q)) (no_change d) >>=
    λ c. or_refused NotFound (table_at q.table d) >>=
    λ t. unless_refused (update_refusals d.pool.places t q) t >>=
    λ t. or_refused InvalidInput (rows_updated t q c)

abbrev pub update_rows : Database → UpdateQuery → Result Change ErrorKind
update_rows d q = widening (λ d. update_at_width d q) d
