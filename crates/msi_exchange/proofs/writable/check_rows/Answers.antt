use Rattle.std.proofs.Common.{◌+◌, refl, sym, ap, ◌∙◌, subst, arith}
use Rattle.msi_exchange.specs.Places.{IsAt}
use Rattle.msi_exchange.specs.Writing.{has_row_line}
use Rattle.msi_exchange.specs.WrongPlaces.{row_unwritable}
use Rattle.msi_exchange.proofs.CheckLemmas.{all_checked, checked_more, checks_on, none_unchecked, not_checked}
use Rattle.msi_exchange.proofs.PlaceLemmas.{placed_on, wrong_stopped}
use Rattle.msi_exchange.proofs.writable.check_rows.Goals as goal

pub loop-i-init : goal.loop-i-init
loop-i-init c = (refl, refl)

pub loop-i-preserved : goal.loop-i-preserved
loop-i-preserved c =
    checked_more (has_row_line c.args.columns.now) (row_unwritable c.args.columns.now) c.args.rows.now 4 c.loop-i.i c.loop-i.invariant
    (c.loop-i.i + 4) c.index-rows-i.result (omega arith) c.loop-i-test.true c.index-rows-i.is
    (ap (has_row_line c.args.columns.now) (sym c.as_slice.ensures) ∙ c.in_ok-check_row.ensures.kind)
    (ap (row_unwritable c.args.columns.now (c.loop-i.i + 4)) (sym c.as_slice.ensures) ∙ c.in_ok-check_row.ensures.place)

pub returns-in_err-check_row : goal.returns-in_err-check_row
returns-in_err-check_row c = record {
  kind = checks_on c.from_residual.result c.in_err-check_row.field-0.0 _ c.from_residual.ensures.1 c.in_err-check_row.ensures.kind.0
      (not_checked (has_row_line c.args.columns.now) (row_unwritable c.args.columns.now) c.args.rows.now 4 c.loop-i.i c.loop-i.invariant c.index-rows-i.result c.loop-i-test.true c.index-rows-i.is
      (ap (has_row_line c.args.columns.now) (sym c.as_slice.ensures) ∙ c.in_err-check_row.ensures.kind.1));
  place = placed_on c.from_residual.result c.in_err-check_row.field-0.0 _ c.from_residual.ensures.1
      (wrong_stopped (row_unwritable c.args.columns.now) c.args.rows.now _ 4 c.loop-i.i c.loop-i.invariant.1
      (c.loop-i.i + 4) c.index-rows-i.result c.in_err-check_row.field-0.0 (omega arith) c.loop-i-test.true c.index-rows-i.is
      (subst (λ row. IsAt c.in_err-check_row.field-0.0.place c.in_err-check_row.field-0.0.kind (row_unwritable c.args.columns.now (c.loop-i.i + 4) row)) c.as_slice.ensures c.in_err-check_row.ensures.place));
}

pub returns : goal.returns
returns c = record {
  kind = all_checked (has_row_line c.args.columns.now) (row_unwritable c.args.columns.now) c.args.rows.now 4 c.loop-i.i c.loop-i.invariant c.loop-i-test.false;
  place = none_unchecked (has_row_line c.args.columns.now) (row_unwritable c.args.columns.now) c.args.rows.now 4 c.loop-i.i c.loop-i.invariant c.loop-i-test.false;
}
