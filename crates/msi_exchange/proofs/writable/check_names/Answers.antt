use Rattle.std.proofs.Common.{◌≡◌, ◌+◌, refl, sym, ap, ◌∙◌, subst, arith}
use Rattle.msi_exchange.specs.Places.{IsAt, at, first_wrong, unless}
use Rattle.msi_exchange.specs.Writing.{has_field}
use Rattle.msi_exchange.specs.WrongPlaces.{key_unwritable}
use Rattle.msi_exchange.proofs.CheckLemmas.{all_checked, checked_more, checks_on, none_unchecked, not_checked}
use Rattle.msi_exchange.proofs.PlaceLemmas.{placed_on, wrong_stopped}
use Rattle.msi_exchange.proofs.writable.check_names.Goals as goal

pub loop-i-init : goal.loop-i-init
loop-i-init c = (refl, (let e : c.args.before + 1 + 0 ≡ c.args.before + 1 = omega arith in ap (λ n. first_wrong key_unwritable n c.args.names.now) e))

pub loop-i-preserved : goal.loop-i-preserved
loop-i-preserved c =
    let is_field : c.has_field.result ≡ has_field c.index-names-i.result = c.has_field.ensures ∙ ap has_field c.as_str.ensures in
    checked_more has_field key_unwritable c.args.names.now (c.args.before + 1) c.loop-i.i c.loop-i.invariant
    (c.args.before + c.loop-i.i + 1) c.index-names-i.result (omega arith) c.loop-i-test.true c.index-names-i.is
    (sym is_field ∙ c.in_ok-check.ensures.kind) (ap (λ b. unless b (at 3 (c.args.before + c.loop-i.i + 1))) (sym is_field) ∙ c.in_ok-check.ensures.place)

pub returns-in_err-check : goal.returns-in_err-check
returns-in_err-check c =
    let is_field : c.has_field.result ≡ has_field c.index-names-i.result = c.has_field.ensures ∙ ap has_field c.as_str.ensures in
    record {
      kind = checks_on c.from_residual.result c.in_err-check.field-0.0 _ c.from_residual.ensures.1 c.in_err-check.ensures.kind.0
          (not_checked has_field key_unwritable c.args.names.now (c.args.before + 1) c.loop-i.i c.loop-i.invariant c.index-names-i.result c.loop-i-test.true c.index-names-i.is (sym is_field ∙ c.in_err-check.ensures.kind.1));
      place = placed_on c.from_residual.result c.in_err-check.field-0.0 _ c.from_residual.ensures.1
          (wrong_stopped key_unwritable c.args.names.now _ (c.args.before + 1) c.loop-i.i c.loop-i.invariant.1
          (c.args.before + c.loop-i.i + 1) c.index-names-i.result c.in_err-check.field-0.0 (omega arith) c.loop-i-test.true c.index-names-i.is
          (subst (λ b. IsAt c.in_err-check.field-0.0.place c.in_err-check.field-0.0.kind (unless b (at 3 (c.args.before + c.loop-i.i + 1)))) is_field c.in_err-check.ensures.place));
    }

pub returns : goal.returns
returns c = record {
  kind = all_checked has_field key_unwritable c.args.names.now (c.args.before + 1) c.loop-i.i c.loop-i.invariant c.loop-i-test.false;
  place = none_unchecked has_field key_unwritable c.args.names.now (c.args.before + 1) c.loop-i.i c.loop-i.invariant c.loop-i-test.false;
}
