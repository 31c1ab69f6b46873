use Rattle.std.proofs.Common.{◌≡◌, ◌++◌, List, drop, map}
use Rattle.std.specs.List.{flat_map}
use Rattle.msi_table_cells.specs.declared.cell.ValueRef.{ValueRef}
use Rattle.msi_transform_applying.specs.ExpectedStreams.{row_expects}
use Rattle.msi_transform_applying.specs.LeftInHand.{base_of}
use Rattle.msi_transform_rows.specs.RowChanges.{keyed}
use Rattle.msi_transform_schema.specs.SchemaChanges.{plain_row}
use Rattle.msi_transform_applying.proofs.agreeing.push_of_stored.Given as goal

-- with what the rows to come expect there is what all do
abbrev pub invariant-loop-at : goal.invariant-loop-at
invariant-loop-at l =
    let with_key = λ (row : List ValueRef). keyed l.rows.columns l.change.database.pool.places (plain_row row) in
    l.expected.items ++ flat_map (row_expects (base_of l.change) l.change.by l.said l.name) (map with_key (drop l.at l.rows.rows))
    ≡ l.fn.expected.items ++ flat_map (row_expects (base_of l.change) l.change.by l.said l.name) (map with_key l.rows.rows)
