-- A transform's page, and its records of `_Tables` and of `_Columns`, applied to a package or refused.
use Rattle.std.specs.Prelude.{ℕ, Bool, false, not, List, [], ◌∷◌, map, option_map, unwrap_or, if◌then◌else◌, ◌&&◌}
use Rattle.std.specs.Prelude.{◌==◌, Result, Ok}
use Rattle.std.specs.Option.{option_map_or}
use Rattle.msi_base.specs.Lists.{has_pair}
use Rattle.msi_base.specs.declared.errors.ErrorKind.{ErrorKind}
use Rattle.msi_base.specs.declared.errors.ErrorKind.TheVariants.{InvalidData, InvalidInput}
use Rattle.msi_base.specs.Refusals.{Refusals, unless_refused}
use Rattle.msi_pool.specs.Pool.{Place}
use Rattle.msi_table_cells.specs.declared.cell.ValueRef.{ValueRef}
use Rattle.msi_table_cells.specs.KeyOrder.{same_key}
use Rattle.msi_table_values.specs.Columns.{ColumnDef}
use Rattle.msi_database_schema.specs.System.{columns_columns, columns_name, tables_columns, tables_name}
use Rattle.msi_database_changes.specs.Database.{Database, rows_of, table_at}
use Rattle.msi_database_changes.specs.KeySets.{keys_of_rows}
use Rattle.msi_transform_records.specs.declared.records.Record.{Record}
use Rattle.msi_transform_records.specs.declared.shape.Shape.{Shape}
use Rattle.msi_transform_rows.specs.RecordRefusals.{◌>>=◌, Refusal, nowhere}
use Rattle.msi_transform.specs.Transforms.{TransformDef, records_for, shapes_of}
use Rattle.msi_transform_rows.specs.RowChanges.{Rows, by_key, keyed}
use Rattle.msi_transform_schema.specs.SchemaChanges.{SchemaChange, SchemaInHand, are_complete, column_record_applied}
use Rattle.msi_transform_schema.specs.SchemaChanges.{plain_row, table_record_applied}
use Rattle.msi_transform.specs.declared.conditions.ErrorConditions.{ErrorConditions}
use Rattle.msi_transform_rows.specs.TableRecords.{all_applied, changes_schema, number_of}

-- THE PAGE

-- the page stays where the transform's is neutral, and may become the transform's where it is neutral itself
abbrev pub is_other_page : ℕ → ℕ → Bool
is_other_page page_id other = not (page_id == 0) && not (other == 0) && not (page_id == other)

abbrev pub page_refusals : ℕ → TransformDef → ErrorConditions → Refusals
page_refusals page_id t passing = (is_other_page page_id t.page_id && not passing.other_page, InvalidInput) ∷ []

-- THE TABLES' LIST, AND THEIR COLUMNS

-- no two rows share a key
abbrev pub have_own_keys : List Place → List ColumnDef → List (List ValueRef) → Bool
have_own_keys places columns rows = not (has_pair same_key (keys_of_rows places columns rows))

abbrev pub system_rows : Database → List ℕ → List (List ValueRef)
system_rows d name = unwrap_or (option_map rows_of (table_at name d)) []

abbrev pub system_rows_by_key : Database → List ℕ → List ColumnDef → Rows
system_rows_by_key d name columns =
    by_key (map (keyed columns d.pool.places) (map plain_row (system_rows d name)))

abbrev pub schema_begun : Database → SchemaInHand
schema_begun d = record {
  tables = [];
  listed = system_rows_by_key d tables_name tables_columns;
  described = system_rows_by_key d columns_name columns_columns;
  pool = record { places = d.pool.places; is_used = false };
  streams = [];
}

-- where there are two rows of `_Tables` or of `_Columns` with one key, nothing is changed in them
abbrev pub schema_refusals : Database → Refusals
schema_refusals d =
    (not (have_own_keys d.pool.places tables_columns (system_rows d tables_name)), InvalidData)
    ∷ (not (have_own_keys d.pool.places columns_columns (system_rows d columns_name)), InvalidData) ∷ []

abbrev pub records_applied : TransformDef → List ℕ → List ColumnDef
    → (List Shape → SchemaInHand → Record → Result SchemaInHand ErrorKind) → SchemaInHand → Result SchemaInHand Refusal
records_applied t name columns step s = option_map_or
    (λ bytes. all_applied (number_of t name) t (shapes_of columns) bytes (step (shapes_of columns)) s)
    (records_for name t) (Ok s)

abbrev pub complete_refusals : SchemaInHand → Refusals
complete_refusals s = (not (are_complete s), InvalidData) ∷ []

abbrev pub schema_changed : SchemaChange → Result SchemaInHand Refusal
schema_changed change =
    nowhere (unless_refused (schema_refusals change.database) (schema_begun change.database)) >>=
    records_applied change.by tables_name tables_columns (table_record_applied change) >>=
    records_applied change.by columns_name columns_columns (column_record_applied change) >>=
    λ s. nowhere (unless_refused (complete_refusals s) s)

-- where there are no such records, no table is told of
abbrev pub schema_untouched : Database → SchemaInHand
schema_untouched d = record {
  tables = [];
  listed = [];
  described = [];
  pool = record { places = d.pool.places; is_used = false };
  streams = [];
}

abbrev pub schema_applied : SchemaChange → Result SchemaInHand Refusal
schema_applied change =
    if changes_schema change.by then schema_changed change else Ok (schema_untouched change.database)
