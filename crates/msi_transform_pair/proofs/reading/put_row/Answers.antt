use Rattle.std.proofs.Common.{◌≡◌, ◌∙◌, List, ap}
use Rattle.std.proofs.lemmas.Result.{on_ok_weaker}
use Rattle.std.specs.FinMap.{entries, put}
use Rattle.msi_table_cells.specs.CellValues.{row_values}
use Rattle.msi_table_cells.specs.declared.cell.ValueRef.{ValueRef}
use Rattle.msi_table_values.specs.declared.value.Value.{Value}
use Rattle.msi_transform_rows.specs.KeyOfRows.{key_cmp}
use Rattle.msi_transform_pair.specs.Pair.{ToldRow, told_row}
use Rattle.msi_transform_pair.proofs.reading.put_row.Goals as goal

pub returns-clause-ok : goal.returns-clause-ok
returns-clause-ok c =
    let old = entries c.args.rows.now in
    let told = λ (cells : List ValueRef). told_row c.args.base.now.kept c.args.table.now c.args.columns.now c.args.added (row_values c.args.base.now.kept.database.pool.places cells) in
    let key_is : c.in_ok-key.key ≡ (told c.args.cells.now).0 = c.in_ok-key.ensures.key ∙ ap (λ (cells : List ValueRef). (told cells).0) c.as_slice.ensures in
    let row_is : c.in_ok-key.row ≡ (told c.args.cells.now).1 = c.in_ok-key.ensures.row ∙ ap (λ (cells : List ValueRef). (told cells).1) c.as_slice.ensures in
    on_ok_weaker c.insert.result (λ is. is
    ∙ ap (λ (key : List Value). put key_cmp key c.in_ok-key.row old) key_is
    ∙ ap (λ (row : ToldRow). put key_cmp (told c.args.cells.now).0 row old) row_is) c.insert.ensures.ok
