use Rattle.std.proofs.Common.{◌≡◌, ◌+◌, ℕ, List, Bor, Vec, Global, arith, ap, map, ◌∙◌}
use Rattle.msi_base.specs.declared.text.Text.{Text}
use Rattle.msi_exchange.specs.Fields.{text_in}
use Rattle.msi_exchange.specs.Lists.{each}
use Rattle.msi_exchange.specs.Places.{first_wrong, no_memory}
use Rattle.msi_exchange.specs.WrongPlaces.{name_wrong}
use Rattle.msi_exchange.proofs.ListLemmas.{fails_too, front_none, loop_more, loop_stopped, loop_ended, with_front}
use Rattle.msi_exchange.proofs.PlaceLemmas.{no_place, passed_on, placed_on, viewed_ended, viewed_more, viewed_stopped}
use Rattle.msi_exchange.proofs.keys.names_of.Goals as goal

abbrev shown : Bor (List ℕ) → List ℕ
shown field = field.now

abbrev items : Vec Text Global → List (List ℕ)
items names = names.items

pub loop-i-init : goal.loop-i-init
loop-i-init c =
    let whole = each text_in (map shown c.args.fields.now) in
    let first : c.args.before + 1 + 0 ≡ c.args.before + 1 = omega arith in
    (ap (λ names. with_front names whole) c.new-names.ensures.items ∙ front_none whole, ap (λ (n : ℕ). first_wrong name_wrong n (map shown c.args.fields.now)) first)

pub loop-i-preserved : goal.loop-i-preserved
loop-i-preserved c = (
  loop_more shown text_in c.args.fields.now _ c.loop-i.names.items c.loop-i.i c.loop-i.invariant.0
      _ c.in_ok-name.name c.push.new.self.items c.loop-i-test.true c.in_ok-name.ensures.value c.in_ok-push.ensures.items,
  viewed_more shown name_wrong c.args.fields.now _ (c.args.before + 1) c.loop-i.i c.loop-i.invariant.1
      (c.args.before + c.loop-i.i + 1) _ (omega arith) c.loop-i-test.true c.in_ok-name.ensures.place,
)

pub returns-in_err-name : goal.returns-in_err-name
returns-in_err-name c =
    let fields = c.args.fields.now in
    let whole = each text_in (map shown fields) in
    record {
      value = passed_on items c.from_residual.result c.in_err-name.field-0.0 whole c.from_residual.ensures.1
          (fails_too c.in_err-name.field-0.0.kind _ whole
          (loop_stopped shown text_in fields whole c.loop-i.names.items c.loop-i.i c.loop-i.invariant.0 _ c.loop-i-test.true) c.in_err-name.ensures.value);
      place = placed_on c.from_residual.result c.in_err-name.field-0.0 _ c.from_residual.ensures.1
          (viewed_stopped shown name_wrong fields _ (c.args.before + 1) c.loop-i.i c.loop-i.invariant.1
          (c.args.before + c.loop-i.i + 1) _ c.in_err-name.field-0.0 (omega arith) c.loop-i-test.true c.in_err-name.ensures.place);
    }

pub returns-in_err-push : goal.returns-in_err-push
returns-in_err-push c = record {
  value = passed_on items c.from_residual-in_err-push.result no_memory (each text_in (map shown c.args.fields.now)) c.from_residual-in_err-push.ensures.1 tt;
  place = no_place c.from_residual-in_err-push.result _ c.from_residual-in_err-push.ensures.1;
}

pub returns : goal.returns
returns c = record {
  value = loop_ended shown text_in c.args.fields.now _ c.loop-i.names.items c.loop-i.i c.loop-i.invariant.0 c.loop-i-test.false;
  place = viewed_ended shown name_wrong c.args.fields.now _ (c.args.before + 1) c.loop-i.i c.loop-i.invariant.1 c.loop-i-test.false;
}
