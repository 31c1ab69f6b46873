use Rattle.std.proofs.Common.{◌≡◌, ◌++◌, drop, map}
use Rattle.std.specs.List.{flat_map}
use Rattle.msi_table_cells.specs.CellValues.{row_values}
use Rattle.msi_table_cells.specs.KeyOrder.{key_of}
use Rattle.msi_transform_rows.specs.RowStreams.{row_stream_gone}
use Rattle.msi_transform_schema.proofs.schema_change.SchemaChange.push_gone_streams.Given as goal

-- with the streams of the rows to come there are those of all
abbrev pub invariant-loop-row : goal.invariant-loop-row
invariant-loop-row l =
    l.streams.items ++ flat_map (λ row. row_stream_gone l.table (key_of l.columns row)) (map (row_values l.self.database.pool.places) (drop l.row-index l.rows))
    ≡ l.fn.streams.items ++ flat_map (λ row. row_stream_gone l.table (key_of l.columns row)) (map (row_values l.self.database.pool.places) l.rows)
