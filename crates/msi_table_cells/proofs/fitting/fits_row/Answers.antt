use Rattle.std.proofs.Common.{◌∙◌, ◌<◌, ap, sym, arith, below_more, length, refl}
use mathlib.Core.Bool.{true≢false}
use Rattle.msi_table_values.specs.Columns.{ColumnDef, types_of}
use Rattle.msi_table_cells.proofs.FittingLemmas.{fits_by_cells, fits_here, fits_if_row_does, fits_length}
use Rattle.msi_table_values.proofs.ColumnTypesLemmas.{length-types_of}
use Rattle.msi_table_cells.proofs.fitting.fits_row.Goals as goal

-- a row of another width fits no columns
pub returns-then-row-columns : goal.returns-then-row-columns
returns-then-row-columns c =
    (λ e. absurd (true≢false (sym e)), λ fits. absurd (c.if-row-columns.true (fits_length c.args.long (types_of c.args.columns.now) c.args.row.now fits ∙ length-types_of c.args.columns.now)))

-- nor does one with a cell that doesn't fit
pub returns-then-not-fits_column : goal.returns-then-not-fits_column
returns-then-not-fits_column c =
    let wide : c.loop-i.i < length c.args.row.now = omega (arith, c.if-row-columns.false, c.loop-i-test.true) in (
      λ e. absurd (true≢false (sym e)),
      λ fits. sym c.if-not-fits_column.true ∙ c.fits_column.ensures.1
          (fits_if_row_does c.args.long c.args.columns.now c.args.row.now c.loop-i.i c.coltype.result c.index-columns-i.result c.index-row-i.result
          c.loop-i-test.true wide (c.coltype.ensures ∙ ap (λ (x : ColumnDef). x.coltype) c.index-columns-i.is) c.index-row-i.is fits),
    )

pub loop-i-preserved : goal.loop-i-preserved
loop-i-preserved c =
    let wide : c.loop-i.i < length c.args.row.now = omega (arith, c.if-row-columns.false, c.loop-i-test.true) in
    below_more _ _ c.loop-i.invariant (fits_here c.args.long c.args.columns.now c.args.row.now c.loop-i.i c.coltype.result c.index-columns-i.result c.index-row-i.result
    c.loop-i-test.true wide (c.coltype.ensures ∙ ap (λ (x : ColumnDef). x.coltype) c.index-columns-i.is) c.index-row-i.is (c.fits_column.ensures.0 c.if-not-fits_column.false))

pub returns : goal.returns
returns c = (
  λ e. fits_by_cells c.args.long (types_of c.args.columns.now) c.args.row.now (omega (arith, c.if-row-columns.false, length-types_of c.args.columns.now))
      (λ j h. c.loop-i.invariant j (omega (arith, c.loop-i-test.false, length-types_of c.args.columns.now))),
  λ fits. refl,
)
