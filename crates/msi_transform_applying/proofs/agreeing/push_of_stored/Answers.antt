use Rattle.std.proofs.Common.{◌≡◌, ◌∙◌, List, ap, arith}
use Rattle.msi_table_cells.specs.declared.cell.ValueRef.{ValueRef}
use Rattle.msi_table_cells.specs.CellValues.{row_values}
use Rattle.msi_table_cells.specs.KeyOrder.{key_of}
use Rattle.msi_table_values.specs.Columns.{ColumnDef}
use Rattle.msi_table_values.specs.declared.value.Value.{Value}
use Rattle.msi_transform_applying.specs.ExpectedStreams.{expected_at, row_expects}
use Rattle.msi_transform_applying.specs.LeftInHand.{base_of}
use Rattle.msi_transform_rows.specs.RowChanges.{keyed}
use Rattle.msi_transform_schema.specs.SchemaChanges.{plain_row}
use Rattle.msi_transform_rows.specs.declared.row.RowStream.TheVariants.{AsBefore}
use Rattle.msi_transform_applying.proofs.StayingLemmas.{row_added}
use Rattle.msi_transform_applying.proofs.agreeing.push_of_stored.Goals as goal

pub loop-at-preserved : goal.loop-at-preserved
loop-at-preserved c = let s = c.args.change.now in let rows = c.args.rows.now in let places = s.database.pool.places in
    let key_is : c.in_ok-key.key ≡ key_of rows.columns (row_values places c.in_ok-row.row) =
    c.in_ok-key.ensures.ok ∙ ap (λ (cells : List ValueRef). key_of c.columns.result.now (row_values places cells)) c.as_slice.ensures
    ∙ ap (λ (cs : List ColumnDef). key_of cs (row_values places c.in_ok-row.row)) c.columns.ensures.columns in
    row_added (row_expects (base_of s) s.by c.args.said.now c.args.name.now) (λ (row : List ValueRef). keyed rows.columns places (plain_row row))
    rows.rows c.loop-at.at c.in_ok-row.row c.loop-at.expected.items _ _ _ (omega arith) c.in_ok-row.ensures.ok c.in_ok-push_of_row.ensures.ok
    (ap (λ (key : List Value). expected_at (base_of s) s.by c.args.said.now c.args.name.now key AsBefore) key_is)
    c.loop-at.invariant
