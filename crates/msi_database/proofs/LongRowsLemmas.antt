-- A table's stream that is stored with long references.
use Rattle.std.proofs.Common.{◌≡◌, ℕ, Bool, true, false, ◌==◌, List, length, sym, ap, ◌∙◌}
use Rattle.std.specs.Prelude.{if◌then◌else◌}
use Rattle.std.specs.FinMap.{entries, entries-insert, insert}
use Rattle.msi_container_format.specs.Streams as maps
use Rattle.msi_container_format.proofs.NamesLemmas.{names_total as key_names_total}
use Rattle.msi_table.specs.Cells.{table_bytes}
use Rattle.msi_table_cells.specs.declared.cell.ValueRef.{ValueRef}
use Rattle.msi_table_values.specs.Columns.{ColumnDef, types_of}
use Rattle.msi_database_schema.specs.Keys.{table_key}
use Rattle.msi_database_changes.specs.Insert.{table_with}
use Rattle.msi_database_storage.specs.Streams.{with_stream}
use Rattle.msi_database_storage.specs.Widening.{with_long_rows}

pub put_long : (m new : maps.Streams) (name : List ℕ) (columns : List ColumnDef) (rows : List (List ValueRef)) (key bytes : List ℕ) (b : Bool) → b ≡ (length rows == 0) → b ≡ false → new ≡ insert m key bytes → key ≡ table_key name
    → bytes ≡ table_bytes true (types_of columns) rows → entries new ≡ with_long_rows (entries m) (name, table_with columns rows)
put_long m new name columns rows key bytes b b_is some new_is key_is bytes_is =
    ap entries new_is ∙ entries-insert key_names_total m key bytes
    ∙ (λ i. with_stream (key_is i) (bytes_is i) (entries m))
    ∙ (λ i. if (sym some ∙ b_is) i then entries m else with_stream (table_key name) (table_bytes true (types_of columns) rows) (entries m))
