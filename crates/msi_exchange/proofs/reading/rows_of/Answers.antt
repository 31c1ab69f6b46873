use Rattle.std.proofs.Common.{◌+◌, ℕ, List, Bor, Vec, Global, arith, ap, map, refl, ◌∙◌}
use Rattle.msi_exchange.specs.Lists.{each}
use Rattle.msi_exchange.specs.Places.{no_memory}
use Rattle.msi_exchange.specs.Reading.{row_in}
use Rattle.msi_exchange.specs.WrongPlaces.{row_wrong}
use Rattle.msi_exchange.proofs.ListLemmas.{fails_too, front_none, loop_more, loop_stopped, loop_ended, with_front}
use Rattle.msi_exchange.proofs.PlaceLemmas.{no_place, passed_on, placed_on, viewed_ended, viewed_more, viewed_stopped}
use Rattle.msi_exchange.proofs.reading.rows_of.Goals as goal

abbrev shown : Bor (List ℕ) → List ℕ
shown line = line.now

abbrev items : {X : Type 0} → Vec X Global → List X
items rows = rows.items

pub returns-in_err-rows : goal.returns-in_err-rows
returns-in_err-rows c = record {
  value = passed_on items c.from_residual.result no_memory (each (row_in c.args.columns.now) (map shown c.args.lines.now)) c.from_residual.ensures.1 tt;
  place = no_place c.from_residual.result _ c.from_residual.ensures.1;
}

pub loop-i-init : goal.loop-i-init
loop-i-init c =
    let whole = each (row_in c.args.columns.now) (map shown c.args.lines.now) in
    (ap (λ rows. with_front rows whole) c.in_ok-rows.ensures.items ∙ front_none whole, refl)

pub loop-i-preserved : goal.loop-i-preserved
loop-i-preserved c = (
  loop_more shown (row_in c.args.columns.now) c.args.lines.now _ c.loop-i.rows.items c.loop-i.i c.loop-i.invariant.0
      _ c.in_ok-row.row c.push.new.self.items c.loop-i-test.true c.in_ok-row.ensures.value c.in_ok-push.ensures.items,
  viewed_more shown (row_wrong c.args.columns.now) c.args.lines.now _ 4 c.loop-i.i c.loop-i.invariant.1
      (c.loop-i.i + 4) _ (omega arith) c.loop-i-test.true c.in_ok-row.ensures.place,
)

pub returns-in_err-row : goal.returns-in_err-row
returns-in_err-row c =
    let lines = c.args.lines.now in
    let whole = each (row_in c.args.columns.now) (map shown lines) in
    record {
      value = passed_on items c.from_residual-in_err-row.result c.in_err-row.field-0.0 whole c.from_residual-in_err-row.ensures.1
          (fails_too c.in_err-row.field-0.0.kind _ whole
          (loop_stopped shown (row_in c.args.columns.now) lines whole c.loop-i.rows.items c.loop-i.i c.loop-i.invariant.0 _ c.loop-i-test.true) c.in_err-row.ensures.value);
      place = placed_on c.from_residual-in_err-row.result c.in_err-row.field-0.0 _ c.from_residual-in_err-row.ensures.1
          (viewed_stopped shown (row_wrong c.args.columns.now) lines _ 4 c.loop-i.i c.loop-i.invariant.1
          (c.loop-i.i + 4) _ c.in_err-row.field-0.0 (omega arith) c.loop-i-test.true c.in_err-row.ensures.place);
    }

pub returns-in_err-push : goal.returns-in_err-push
returns-in_err-push c = record {
  value = passed_on items c.from_residual-in_err-push.result no_memory (each (row_in c.args.columns.now) (map shown c.args.lines.now)) c.from_residual-in_err-push.ensures.1 tt;
  place = no_place c.from_residual-in_err-push.result _ c.from_residual-in_err-push.ensures.1;
}

pub returns : goal.returns
returns c = record {
  value = loop_ended shown (row_in c.args.columns.now) c.args.lines.now _ c.loop-i.rows.items c.loop-i.i c.loop-i.invariant.0 c.loop-i-test.false;
  place = viewed_ended shown (row_wrong c.args.columns.now) c.args.lines.now _ 4 c.loop-i.i c.loop-i.invariant.1 c.loop-i-test.false;
}
