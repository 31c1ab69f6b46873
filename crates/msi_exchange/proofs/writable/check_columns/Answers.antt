use Rattle.std.proofs.Common.{◌+◌, refl, arith}
use Rattle.msi_exchange.specs.Writing.{has_column_fields}
use Rattle.msi_exchange.specs.WrongPlaces.{column_unwritable}
use Rattle.msi_exchange.proofs.CheckLemmas.{all_checked, checked_more, checks_on, none_unchecked, not_checked}
use Rattle.msi_exchange.proofs.PlaceLemmas.{placed_on, wrong_stopped}
use Rattle.msi_exchange.proofs.writable.check_columns.Goals as goal

pub loop-i-init : goal.loop-i-init
loop-i-init c = (refl, refl)

pub loop-i-preserved : goal.loop-i-preserved
loop-i-preserved c = checked_more has_column_fields column_unwritable c.args.columns.now 1 c.loop-i.i c.loop-i.invariant
    (c.loop-i.i + 1) c.index-columns-i.result (omega arith) c.loop-i-test.true c.index-columns-i.is c.in_ok-check_column.ensures.kind c.in_ok-check_column.ensures.place

pub returns-in_err-check_column : goal.returns-in_err-check_column
returns-in_err-check_column c = record {
  kind = checks_on c.from_residual.result c.in_err-check_column.field-0.0 _ c.from_residual.ensures.1 c.in_err-check_column.ensures.kind.0
      (not_checked has_column_fields column_unwritable c.args.columns.now 1 c.loop-i.i c.loop-i.invariant c.index-columns-i.result c.loop-i-test.true c.index-columns-i.is c.in_err-check_column.ensures.kind.1);
  place = placed_on c.from_residual.result c.in_err-check_column.field-0.0 _ c.from_residual.ensures.1
      (wrong_stopped column_unwritable c.args.columns.now _ 1 c.loop-i.i c.loop-i.invariant.1
      (c.loop-i.i + 1) c.index-columns-i.result c.in_err-check_column.field-0.0 (omega arith) c.loop-i-test.true c.index-columns-i.is c.in_err-check_column.ensures.place);
}

pub returns : goal.returns
returns c = record {
  kind = all_checked has_column_fields column_unwritable c.args.columns.now 1 c.loop-i.i c.loop-i.invariant c.loop-i-test.false;
  place = none_unchecked has_column_fields column_unwritable c.args.columns.now 1 c.loop-i.i c.loop-i.invariant c.loop-i-test.false;
}
