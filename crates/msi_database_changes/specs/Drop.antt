-- What dropping a table does.
use Rattle.std.specs.Prelude.{ℕ, Bool, not, List, [], ◌∷◌, ◌++◌, filter, Result, Ok, take}
use Rattle.std.specs.Option.{option_map_or}
use Rattle.std.specs.List.{fold}
use Rattle.msi_base.specs.declared.errors.ErrorKind.{ErrorKind}
use Rattle.msi_base.specs.declared.errors.ErrorKind.TheVariants.{InvalidInput, NotFound}
use Rattle.msi_pool.specs.Pool.{Place}
use Rattle.msi_base.specs.Refusals.{Refusals, unless_refused, or_refused, ◌>>=◌}
use Rattle.msi_table_values.specs.declared.value.Value.TheVariants.{Str}
use Rattle.msi_table_cells.specs.declared.cell.ValueRef.{ValueRef}
use Rattle.msi_table_cells.specs.CellValues.{row_values}
use Rattle.msi_table_cells.specs.KeyOrder.{same_key}
use Rattle.msi_database_schema.specs.Keys.{is_table_name}
use Rattle.msi_database_schema.specs.System.{tables_name, columns_name, validation_name, is_system_table}
use Rattle.msi_database_changes.specs.Database.{Database, table_at, without_table, with_places, rows_of}
use Rattle.msi_table_cells.specs.TableCells.{TableCells}
use Rattle.msi_database_changes.specs.Changes.{Change, no_change, pool_of, with_stored, barred_refusals, missing_or}
use Rattle.msi_database_changes.specs.Texts.{rows_released}

-- Drop: every text of the table's rows and of the rows about it is given back
abbrev pub is_row_about : List Place → List ℕ → List ValueRef → Bool
is_row_about places name row = same_key (Str name ∷ []) (take 1 (row_values places row))

abbrev pub rows_forgotten : List ℕ → List Place → List ℕ → Change → Change
rows_forgotten name places system c = option_map_or
    (λ t. with_stored system t.columns (filter (λ row. not (is_row_about places name row)) (rows_of t))
    (rows_released (pool_of c) (filter (is_row_about places name) (rows_of t))) c)
    (table_at system c.database) c

abbrev pub table_released : List ℕ → TableCells → Change → Change
table_released name t c = let pool = rows_released (pool_of c) (rows_of t) in
    record {
      database = with_places pool.places
          (without_table name c.database);
      is_pool_used = pool.is_used;
      stored = c.stored ++ name ∷ [];
    }

-- what refuses a drop before its table is looked for
abbrev pub drop_refusals : Database → List ℕ → Refusals
drop_refusals d name = barred_refusals d (is_system_table name) ++ (not (is_table_name name), InvalidInput) ∷ []

-- what refuses a drop: telling it takes no memory
abbrev pub early_drop_refusals : Database → List ℕ → Refusals
early_drop_refusals d name = drop_refusals d name ++ missing_or (table_at name d) (λ t. [])

abbrev pub drop_table : Database → List ℕ → Result Change ErrorKind
drop_table d name = unless_refused (drop_refusals d name) (no_change d) >>=
    λ c. or_refused NotFound (table_at name d) >>=
    λ t. Ok (fold (λ c system. rows_forgotten name d.pool.places system c)
    (table_released name t c) (validation_name ∷ columns_name ∷ tables_name ∷ []))
