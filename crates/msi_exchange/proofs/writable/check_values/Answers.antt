use Rattle.std.proofs.Common.{◌≡◌, ◌+◌, refl, sym, ap, ◌∙◌, subst, arith}
use Rattle.msi_exchange.specs.Places.{IsAt, at, unless}
use Rattle.msi_exchange.specs.Writing.{has_value_field}
use Rattle.msi_exchange.specs.WrongPlaces.{value_unwritable}
use Rattle.msi_exchange.proofs.CheckLemmas.{checks_on}
use Rattle.msi_exchange.proofs.PlaceLemmas.{pair_ended, pair_more, pair_stopped, placed_on}
use Rattle.msi_exchange.proofs.WritableLemmas.{value_more, value_stopped, values_ended}
use Rattle.msi_exchange.proofs.writable.check_values.Goals as goal

pub loop-i-init : goal.loop-i-init
loop-i-init c = (refl, refl)

pub loop-i-preserved : goal.loop-i-preserved
loop-i-preserved c =
    let is_field : c.has_value_field.result ≡ has_value_field c.index-columns-i.result.field_type.coltype c.index-row-i.result =
    c.has_value_field.ensures ∙ ap (λ type. has_value_field type c.index-row-i.result) c.coltype.ensures in (
      value_more c.args.columns.now c.args.row.now c.loop-i.i _ c.requires c.loop-i.invariant.0 c.index-columns-i.result c.index-row-i.result (omega arith)
          c.index-columns-i.is c.index-row-i.is (sym is_field ∙ c.in_ok-check.ensures.kind),
      pair_more (value_unwritable c.args.line) c.args.columns.now c.args.row.now _ c.loop-i.i c.requires c.loop-i.invariant.1
          (c.loop-i.i + 1) c.index-columns-i.result c.index-row-i.result refl (omega arith) c.index-columns-i.is c.index-row-i.is
          (ap (λ b. unless b (at c.args.line (c.loop-i.i + 1))) (sym is_field) ∙ c.in_ok-check.ensures.place),
    )

pub returns-in_err-check : goal.returns-in_err-check
returns-in_err-check c =
    let is_field : c.has_value_field.result ≡ has_value_field c.index-columns-i.result.field_type.coltype c.index-row-i.result =
    c.has_value_field.ensures ∙ ap (λ type. has_value_field type c.index-row-i.result) c.coltype.ensures in
    record {
      kind = checks_on c.from_residual.result c.in_err-check.field-0.0 _ c.from_residual.ensures.1 c.in_err-check.ensures.kind.0
          (value_stopped c.args.columns.now c.args.row.now c.loop-i.i _ c.requires c.loop-i.invariant.0 c.index-columns-i.result c.index-row-i.result (omega arith)
          c.index-columns-i.is c.index-row-i.is (sym is_field ∙ c.in_err-check.ensures.kind.1));
      place = placed_on c.from_residual.result c.in_err-check.field-0.0 _ c.from_residual.ensures.1
          (pair_stopped (value_unwritable c.args.line) c.args.columns.now c.args.row.now _ c.loop-i.i c.requires c.loop-i.invariant.1
          (c.loop-i.i + 1) c.index-columns-i.result c.index-row-i.result c.in_err-check.field-0.0 refl (omega arith) c.index-columns-i.is c.index-row-i.is
          (subst (λ b. IsAt c.in_err-check.field-0.0.place c.in_err-check.field-0.0.kind (unless b (at c.args.line (c.loop-i.i + 1)))) is_field c.in_err-check.ensures.place));
    }

pub returns : goal.returns
returns c = record {
  kind = values_ended c.args.columns.now c.args.row.now c.loop-i.i _ c.requires c.loop-i.invariant.0 c.loop-i-test.false;
  place = pair_ended (value_unwritable c.args.line) c.args.columns.now c.args.row.now _ c.loop-i.i c.requires c.loop-i.invariant.1 (omega arith);
}
