use Rattle.std.proofs.Common.{◌≡◌, ◌+◌, ℕ, List, Bor, Vec, Global, Option, None, length, ap, map, refl, ◌∙◌}
use Rattle.std.proofs.lemmas.List.{length-map}
use Rattle.msi_table_values.specs.declared.value.Value.{Value}
use Rattle.msi_exchange.specs.declared.errors.Place.{Place}
use Rattle.msi_exchange.specs.Archives.{ArchiveColumnDef}
use Rattle.msi_exchange.specs.Lists.{each_pair}
use Rattle.msi_exchange.specs.Places.{first_wrong_pair, no_memory, uneven}
use Rattle.msi_exchange.specs.Reading.{cell_in}
use Rattle.msi_exchange.specs.WrongPlaces.{cell_wrong}
use Rattle.msi_exchange.proofs.ListLemmas.{each_pair_uneven, fails_too, front_none, pairs_ended, pairs_more, pairs_stopped, with_front}
use Rattle.msi_exchange.proofs.PlaceLemmas.{at_first, at_later, beside_ended, beside_more, beside_stopped, is_even, no_place, none_wrong, passed_on, placed_at, placed_on, refused_at}
use Rattle.msi_exchange.proofs.reading.row_with.Goals as goal

abbrev shown : Bor (List ℕ) → List ℕ
shown field = field.now

abbrev items : Vec Value Global → List Value
items row = row.items

abbrev counted : ℕ → List ArchiveColumnDef → List (Bor (List ℕ)) → Option Place
counted line columns fields = uneven line (length columns) (length (map shown fields))

none_missing : (line : ℕ) (columns : List ArchiveColumnDef) (fields : List (Bor (List ℕ))) → length columns ≡ length fields → counted line columns fields ≡ None
none_missing line columns fields e = ap (uneven line (length columns)) (length-map fields shown) ∙ is_even line (length columns) (length fields) e

pub returns-then-columns-fields : goal.returns-then-columns-fields
returns-then-columns-fields c = record {
  value = refused_at c.new.result c.uneven-place.result _ c.new.ensures (each_pair_uneven cell_in c.args.columns.now _ (λ e. c.if-columns-fields.true (e ∙ length-map c.args.fields.now _)));
  place = at_first c.new.result.place c.new.result.kind (counted c.args.line c.args.columns.now c.args.fields.now) (first_wrong_pair (cell_wrong c.args.line) 1 c.args.columns.now (map shown c.args.fields.now))
      (placed_at c.new.result c.uneven-place.result (counted c.args.line c.args.columns.now c.args.fields.now) c.new.ensures
      (ap (uneven c.args.line (length c.args.columns.now)) (length-map c.args.fields.now shown) ∙ c.uneven-place.ensures));
}

pub returns-in_err-row : goal.returns-in_err-row
returns-in_err-row c = record {
  value = passed_on items c.from_residual.result no_memory (each_pair cell_in c.args.columns.now (map shown c.args.fields.now)) c.from_residual.ensures.1 tt;
  place = no_place c.from_residual.result _ c.from_residual.ensures.1;
}

pub loop-i-init : goal.loop-i-init
loop-i-init c =
    let whole = each_pair cell_in c.args.columns.now (map shown c.args.fields.now) in
    (ap (λ row. with_front row whole) c.in_ok-row.ensures.items ∙ front_none whole, refl)

pub loop-i-preserved : goal.loop-i-preserved
loop-i-preserved c = (
  pairs_more shown cell_in c.args.columns.now c.args.fields.now _ c.loop-i.row.items c.loop-i.i c.loop-i.invariant.0 c.if-columns-fields.false
      c.index-columns-i.result _ c.in_ok-value.value c.push.new.self.items c.loop-i-test.true c.index-columns-i.is c.in_ok-value.ensures.value c.in_ok-push.ensures.items,
  beside_more shown (cell_wrong c.args.line) c.args.columns.now c.args.fields.now _ c.loop-i.i c.if-columns-fields.false c.loop-i.invariant.1
      (c.loop-i.i + 1) c.index-columns-i.result _ refl c.loop-i-test.true c.index-columns-i.is c.in_ok-value.ensures.place,
)

pub returns-in_err-value : goal.returns-in_err-value
returns-in_err-value c =
    let whole = each_pair cell_in c.args.columns.now (map shown c.args.fields.now) in
    let wrong = first_wrong_pair (cell_wrong c.args.line) 1 c.args.columns.now (map shown c.args.fields.now) in
    record {
      value = passed_on items c.from_residual-in_err-value.result c.in_err-value.field-0.0 whole c.from_residual-in_err-value.ensures.1
          (fails_too c.in_err-value.field-0.0.kind _ whole
          (pairs_stopped shown cell_in c.args.columns.now c.args.fields.now whole c.loop-i.row.items c.loop-i.i c.loop-i.invariant.0 c.if-columns-fields.false
          c.index-columns-i.result _ c.loop-i-test.true c.index-columns-i.is) c.in_err-value.ensures.value);
      place = placed_on c.from_residual-in_err-value.result c.in_err-value.field-0.0 _ c.from_residual-in_err-value.ensures.1
          (at_later c.in_err-value.field-0.0.place c.in_err-value.field-0.0.kind (counted c.args.line c.args.columns.now c.args.fields.now) wrong (none_missing c.args.line c.args.columns.now c.args.fields.now c.if-columns-fields.false)
          (beside_stopped shown (cell_wrong c.args.line) c.args.columns.now c.args.fields.now wrong c.loop-i.i c.if-columns-fields.false c.loop-i.invariant.1
          (c.loop-i.i + 1) c.index-columns-i.result _ c.in_err-value.field-0.0 refl c.loop-i-test.true c.index-columns-i.is c.in_err-value.ensures.place));
    }

pub returns-in_err-push : goal.returns-in_err-push
returns-in_err-push c = record {
  value = passed_on items c.from_residual-in_err-push.result no_memory (each_pair cell_in c.args.columns.now (map shown c.args.fields.now)) c.from_residual-in_err-push.ensures.1 tt;
  place = no_place c.from_residual-in_err-push.result _ c.from_residual-in_err-push.ensures.1;
}

pub returns : goal.returns
returns c = record {
  value = pairs_ended shown cell_in c.args.columns.now c.args.fields.now _ c.loop-i.row.items c.loop-i.i c.loop-i.invariant.0 c.if-columns-fields.false c.loop-i-test.false;
  place = none_wrong (counted c.args.line c.args.columns.now c.args.fields.now) _ (none_missing c.args.line c.args.columns.now c.args.fields.now c.if-columns-fields.false)
      (beside_ended shown (cell_wrong c.args.line) c.args.columns.now c.args.fields.now _ c.loop-i.i c.if-columns-fields.false c.loop-i.invariant.1 c.loop-i-test.false);
}
