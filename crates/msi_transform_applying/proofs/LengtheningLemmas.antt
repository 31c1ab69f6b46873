-- The streams of a table that gets its first column of streams go.
use Rattle.std.proofs.Common.{◌≡◌, ℕ, Bool, true, List, [], map, ap, sym, ◌∙◌}
use Rattle.std.specs.Prelude.{if◌then◌else◌}
use Rattle.std.specs.List.{flat_map}
use Rattle.std.proofs.lemmas.List.Folds.{flat_map-map}
use Rattle.msi_database_changes.specs.Database.{Database}
use Rattle.msi_database_changes.specs.declared.storing.Stored.{Stored}
use Rattle.msi_table_cells.specs.CellValues.{row_values}
use Rattle.msi_table_cells.specs.KeyOrder.{key_of}
use Rattle.msi_table_cells.specs.declared.cell.ValueRef.{ValueRef}
use Rattle.msi_table_values.specs.Columns.{ColumnDef}
use Rattle.msi_transform_rows.specs.RowStreams.{row_stream_gone}
use Rattle.msi_transform_schema.specs.SchemaChanges.{TableInHand, columns_of_package, rows_of_package}
use Rattle.msi_transform_applying.specs.Applying.{gains_streams, streams_begun}

module _ (d : Database) (name : List ℕ) (t : TableInHand) where
  abbrev pub gone_of : List ColumnDef → List ValueRef → List Stored
  gone_of columns row = row_stream_gone name (key_of columns (row_values d.pool.places row))

  pub gone_begun : (columns : List ColumnDef) (rows : List (List ValueRef)) → columns ≡ columns_of_package d name t.standing → rows ≡ rows_of_package d name t.standing
      → gains_streams (columns_of_package d name t.standing) t.added ≡ true
      → flat_map (λ row. row_stream_gone name (key_of columns row)) (map (row_values d.pool.places) rows) ≡ streams_begun d name t
  gone_begun columns rows cs rs e =
      flat_map-map (λ row. row_stream_gone name (key_of columns row)) (row_values d.pool.places) rows
      ∙ ap (λ (cols : List ColumnDef). flat_map (gone_of cols) rows) cs
      ∙ ap (flat_map (gone_of (columns_of_package d name t.standing))) rs
      ∙ ap (λ (b : Bool). if b then flat_map (gone_of (columns_of_package d name t.standing)) (rows_of_package d name t.standing) else []) (sym e)
