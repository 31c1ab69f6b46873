use Rattle.std.proofs.Common.{◌≡◌, ◌+◌, ℕ, List, Bor, Vec, Global, Option, None, length, ap, map, refl, ◌∙◌, sym}
use Rattle.std.proofs.lemmas.List.{length-map}
use Rattle.msi_exchange.specs.declared.errors.Place.{Place}
use Rattle.msi_exchange.specs.Lists.{each_pair}
use Rattle.msi_exchange.specs.Places.{first_wrong_pair, no_memory, uneven}
use Rattle.msi_exchange.specs.Reading.{column_in}
use Rattle.msi_exchange.specs.WrongPlaces.{column_wrong}
use Rattle.msi_exchange.proofs.ListLemmas.{each_pair_uneven, fails_too, front_none, both_ended, both_more, both_stopped, with_front}
use Rattle.msi_exchange.proofs.PlaceLemmas.{at_first, at_later, is_even, no_place, none_wrong, passed_on, placed_at, placed_on, refused_at, viewed_pair_ended, viewed_pair_more, viewed_pair_stopped}
use Rattle.msi_exchange.proofs.columns.columns_with.Goals as goal

abbrev shown : Bor (List ℕ) → List ℕ
shown field = field.now

abbrev items : {X : Type 0} → Vec X Global → List X
items columns = columns.items

abbrev counted : List (Bor (List ℕ)) → List (Bor (List ℕ)) → Option Place
counted names types = uneven 2 (length (map shown names)) (length (map shown types))

many : (names types : List (Bor (List ℕ))) → counted names types ≡ uneven 2 (length names) (length types)
many names types = ap (λ (m : ℕ). uneven 2 m (length (map shown types))) (length-map names shown) ∙ ap (uneven 2 (length names)) (length-map types shown)

none_missing : (names types : List (Bor (List ℕ))) → length names ≡ length types → counted names types ≡ None
none_missing names types e = many names types ∙ is_even 2 (length names) (length types) e

pub returns-then-names-types : goal.returns-then-names-types
returns-then-names-types c = record {
  value = refused_at c.new.result c.uneven-place.result _ c.new.ensures (each_pair_uneven column_in _ _ (λ e. c.if-names-types.true (sym (length-map c.args.names.now _) ∙ (e ∙ length-map c.args.types.now _))));
  place = at_first c.new.result.place c.new.result.kind (counted c.args.names.now c.args.types.now) (first_wrong_pair column_wrong 1 (map shown c.args.names.now) (map shown c.args.types.now))
      (placed_at c.new.result c.uneven-place.result (counted c.args.names.now c.args.types.now) c.new.ensures (many c.args.names.now c.args.types.now ∙ c.uneven-place.ensures));
}

pub loop-i-init : goal.loop-i-init
loop-i-init c =
    let whole = each_pair column_in (map shown c.args.names.now) (map shown c.args.types.now) in
    (ap (λ columns. with_front columns whole) c.new-columns.ensures.items ∙ front_none whole, refl)

pub loop-i-preserved : goal.loop-i-preserved
loop-i-preserved c = (
  both_more shown shown column_in c.args.names.now c.args.types.now _ c.loop-i.columns.items c.loop-i.i c.loop-i.invariant.0 c.if-names-types.false
      _ _ c.in_ok-column.column c.push.new.self.items c.loop-i-test.true c.in_ok-column.ensures.value c.in_ok-push.ensures.items,
  viewed_pair_more shown shown column_wrong c.args.names.now c.args.types.now _ c.loop-i.i c.if-names-types.false c.loop-i.invariant.1
      (c.loop-i.i + 1) _ _ refl c.loop-i-test.true c.in_ok-column.ensures.place,
)

pub returns-in_err-column : goal.returns-in_err-column
returns-in_err-column c =
    let whole = each_pair column_in (map shown c.args.names.now) (map shown c.args.types.now) in
    let wrong = first_wrong_pair column_wrong 1 (map shown c.args.names.now) (map shown c.args.types.now) in
    record {
      value = passed_on items c.from_residual.result c.in_err-column.field-0.0 whole c.from_residual.ensures.1
          (fails_too c.in_err-column.field-0.0.kind _ whole
          (both_stopped shown shown column_in c.args.names.now c.args.types.now whole c.loop-i.columns.items c.loop-i.i c.loop-i.invariant.0 c.if-names-types.false
          _ _ c.loop-i-test.true) c.in_err-column.ensures.value);
      place = placed_on c.from_residual.result c.in_err-column.field-0.0 _ c.from_residual.ensures.1
          (at_later c.in_err-column.field-0.0.place c.in_err-column.field-0.0.kind (counted c.args.names.now c.args.types.now) wrong (none_missing c.args.names.now c.args.types.now c.if-names-types.false)
          (viewed_pair_stopped shown shown column_wrong c.args.names.now c.args.types.now wrong c.loop-i.i c.if-names-types.false c.loop-i.invariant.1
          (c.loop-i.i + 1) _ _ c.in_err-column.field-0.0 refl c.loop-i-test.true c.in_err-column.ensures.place));
    }

pub returns-in_err-push : goal.returns-in_err-push
returns-in_err-push c = record {
  value = passed_on items c.from_residual-in_err-push.result no_memory (each_pair column_in (map shown c.args.names.now) (map shown c.args.types.now)) c.from_residual-in_err-push.ensures.1 tt;
  place = no_place c.from_residual-in_err-push.result _ c.from_residual-in_err-push.ensures.1;
}

pub returns : goal.returns
returns c = record {
  value = both_ended shown shown column_in c.args.names.now c.args.types.now _ c.loop-i.columns.items c.loop-i.i c.loop-i.invariant.0 c.if-names-types.false c.loop-i-test.false;
  place = none_wrong (counted c.args.names.now c.args.types.now) _ (none_missing c.args.names.now c.args.types.now c.if-names-types.false)
      (viewed_pair_ended shown shown column_wrong c.args.names.now c.args.types.now _ c.loop-i.i c.if-names-types.false c.loop-i.invariant.1 c.loop-i-test.false);
}
