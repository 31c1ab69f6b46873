use Rattle.std.proofs.Common.{◌*◌, ◌∙◌, ap, arith, refl, sum, take}
use Rattle.std.proofs.lemmas.Result.{err_from_is_err_and}
use Rattle.msi_table.specs.Cells.{widths}
use Rattle.msi_table_values.specs.Columns.{ColumnDef, types_of}
use Rattle.msi_table.proofs.PlacesLemmas.{column_is_inside, start_more, tabulated_done, tabulated_push}
use Rattle.msi_table.proofs.rows.column_starts.Goals as goal

pub overflow_mul-start : goal.overflow_mul-start
overflow_mul-start c =
    let t = c.coltype.ensures ∙ ap (λ (x : ColumnDef). x.coltype) c.column-item.is in
    let b = column_is_inside c.args.long c.args.columns.now c.loop-column.start c.args.count c.loop-column.column-index c.width.result c.coltype.result c.column-item.result
    c.loop-column-test.true t c.width.ensures.value c.loop-column.invariant.start in omega (arith, b, c.requires.fits)

pub overflow_add-start : goal.overflow_add-start
overflow_add-start c =
    let t = c.coltype.ensures ∙ ap (λ (x : ColumnDef). x.coltype) c.column-item.is in
    let b = column_is_inside c.args.long c.args.columns.now c.loop-column.start c.args.count c.loop-column.column-index c.width.result c.coltype.result c.column-item.result
    c.loop-column-test.true t c.width.ensures.value c.loop-column.invariant.start in omega (arith, b, c.requires.fits)

pub loop-column-preserved : goal.loop-column-preserved
loop-column-preserved c =
    let t = c.coltype.ensures ∙ ap (λ (x : ColumnDef). x.coltype) c.column-item.is in
    record {
      starts = tabulated_push c.loop-column.starts.items c.push.new.self.items c.loop-column.column-index (λ j. c.args.count * sum (take j (widths c.args.long (types_of c.args.columns.now)))) c.loop-column.start
          c.in_ok-push.ensures.items c.loop-column.invariant.starts c.loop-column.invariant.start;
      start = start_more c.args.long c.args.columns.now c.loop-column.start c.args.count c.loop-column.column-index c.width.result c.coltype.result c.column-item.result
          c.loop-column-test.true t c.width.ensures.value c.loop-column.invariant.start;
    }

pub returns-in_err-starts : goal.returns-in_err-starts
returns-in_err-starts c =
    let p = err_from_is_err_and c.from_residual.result c.from_residual.ensures.1 in
    rw (p.1, p.2) (record { ok = tt; kind = refl })

pub returns-in_err-push : goal.returns-in_err-push
returns-in_err-push c =
    let p = err_from_is_err_and c.from_residual-in_err-push.result c.from_residual-in_err-push.ensures.1 in
    rw (p.1, p.2) (record { ok = tt; kind = refl })

pub returns : goal.returns
returns c = record {
  ok = tabulated_done c.args.columns.now c.loop-column.starts.items c.loop-column.column-index (λ j. c.args.count * sum (take j (widths c.args.long (types_of c.args.columns.now))))
      c.loop-column.invariant.starts c.loop-column-test.false c.loop-column.auto.column-index-end;
  kind = tt;
}
