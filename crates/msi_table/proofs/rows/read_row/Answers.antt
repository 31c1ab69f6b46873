use Rattle.std.proofs.Common.{◌∙◌, ap, arith, refl}
use Rattle.std.proofs.lemmas.Result.{err_from_is_err_and}
use Rattle.msi_table.specs.Cells.{cell_at}
use Rattle.msi_table_values.specs.Columns.{ColumnDef, types_of}
use Rattle.msi_table.proofs.PlacesLemmas.{tabulated_done, tabulated_push, cell_read, cell_is_inside, start_more}
use Rattle.msi_table.proofs.rows.read_row.Goals as goal

pub overflow_mul-at : goal.overflow_mul-at
overflow_mul-at c =
    let t = c.coltype-coltype.ensures ∙ ap (λ (x : ColumnDef). x.coltype) c.column-item.is in
    let b = cell_is_inside c.args.long c.args.columns.now c.args.bytes.now c.loop-column.start c.args.count c.args.i c.loop-column.column-index c.width-width.result c.coltype-coltype.result c.column-item.result
    c.requires.count c.requires.inside c.loop-column-test.true t c.width-width.ensures.value c.loop-column.invariant.start in omega arith

pub overflow_add-at : goal.overflow_add-at
overflow_add-at c =
    let t = c.coltype-coltype.ensures ∙ ap (λ (x : ColumnDef). x.coltype) c.column-item.is in
    let b = cell_is_inside c.args.long c.args.columns.now c.args.bytes.now c.loop-column.start c.args.count c.args.i c.loop-column.column-index c.width-width.result c.coltype-coltype.result c.column-item.result
    c.requires.count c.requires.inside c.loop-column-test.true t c.width-width.ensures.value c.loop-column.invariant.start in omega arith

pub read_cell-requires : goal.read_cell-requires
read_cell-requires c =
    let t = c.coltype-coltype.ensures ∙ ap (λ (x : ColumnDef). x.coltype) c.column-item.is in
    let b = cell_is_inside c.args.long c.args.columns.now c.args.bytes.now c.loop-column.start c.args.count c.args.i c.loop-column.column-index c.width-width.result c.coltype-coltype.result c.column-item.result
    c.requires.count c.requires.inside c.loop-column-test.true t c.width-width.ensures.value c.loop-column.invariant.start in omega arith

pub overflow_mul-start : goal.overflow_mul-start
overflow_mul-start c =
    let t = c.coltype-coltype.ensures ∙ ap (λ (x : ColumnDef). x.coltype) c.column-item.is in
    let b = cell_is_inside c.args.long c.args.columns.now c.args.bytes.now c.loop-column.start c.args.count c.args.i c.loop-column.column-index c.width-width.result c.coltype-coltype.result c.column-item.result
    c.requires.count c.requires.inside c.loop-column-test.true t c.width-width.ensures.value c.loop-column.invariant.start in omega arith

pub overflow_add-start : goal.overflow_add-start
overflow_add-start c =
    let t = c.coltype-coltype.ensures ∙ ap (λ (x : ColumnDef). x.coltype) c.column-item.is in
    let b = cell_is_inside c.args.long c.args.columns.now c.args.bytes.now c.loop-column.start c.args.count c.args.i c.loop-column.column-index c.width-width.result c.coltype-coltype.result c.column-item.result
    c.requires.count c.requires.inside c.loop-column-test.true t c.width-width.ensures.value c.loop-column.invariant.start in omega arith

pub loop-column-preserved : goal.loop-column-preserved
loop-column-preserved c =
    let t = c.coltype-coltype.ensures ∙ ap (λ (x : ColumnDef). x.coltype) c.column-item.is in
    record {
      row = tabulated_push c.loop-column.row.items c.push.new.self.items c.loop-column.column-index (cell_at c.args.long (types_of c.args.columns.now) c.args.bytes.now c.args.i) c.read_cell.result
          c.in_ok-push.ensures.items c.loop-column.invariant.row
          (cell_read c.args.long c.args.columns.now c.args.bytes.now c.loop-column.start c.args.count c.args.i c.loop-column.column-index c.width-width.result c.coltype-coltype.result c.column-item.result c.read_cell.result
          c.requires.count c.loop-column-test.true t c.width-width.ensures.value c.loop-column.invariant.start c.read_cell.ensures);
      start = start_more c.args.long c.args.columns.now c.loop-column.start c.args.count c.loop-column.column-index c.width-width.result c.coltype-coltype.result c.column-item.result
          c.loop-column-test.true t c.width-width.ensures.value c.loop-column.invariant.start;
    }

pub returns-in_err-row : goal.returns-in_err-row
returns-in_err-row c =
    let p = err_from_is_err_and c.from_residual.result c.from_residual.ensures.1 in
    rw (p.1, p.2) (record { ok = tt; kind = refl })

pub returns-in_err-push : goal.returns-in_err-push
returns-in_err-push c =
    let p = err_from_is_err_and c.from_residual-in_err-push.result c.from_residual-in_err-push.ensures.1 in
    rw (p.1, p.2) (record { ok = tt; kind = refl })

pub returns : goal.returns
returns c = record {
  ok = c.from_vec.ensures
      ∙ tabulated_done c.args.columns.now c.loop-column.row.items c.loop-column.column-index (cell_at c.args.long (types_of c.args.columns.now) c.args.bytes.now c.args.i)
      c.loop-column.invariant.row c.loop-column-test.false c.loop-column.auto.column-index-end;
  kind = tt;
}
