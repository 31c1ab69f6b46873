use Rattle.std.proofs.Common.{◌≤◌, ◌⊎◌, ap, arith, inl, inr, length, map}
use Rattle.std.proofs.lemmas.Bool.{cases_lt}
use Rattle.msi_database_changes.specs.Views.{seen_row}
use Rattle.msi_transform_pair.specs.Pair.{told_value, told_values}
use Rattle.msi_transform_pair.proofs.BesideLemmas.{beside_end, told_from, told_more, whole_list}
use Rattle.msi_transform_pair.proofs.reading.told_values.Goals as goal

pub loop-i-preserved : goal.loop-i-preserved
loop-i-preserved c = record {
  whole = told_more c.args.there c.args.columns.now c.args.values.now c.loop-i.i c.index-columns-i.result c.told_value.result c.loop-i.told.items c.push.new.self.items
      (told_values c.args.there c.args.columns.now (seen_row c.args.values.now)) (omega arith) (omega arith) c.index-columns-i.is c.told_value.ensures c.in_ok-push.ensures.items c.loop-i.invariant.whole;
}

pub returns-clause-ok : goal.returns-clause-ok
returns-clause-ok c =
    let past : (length c.args.columns.now ≤ c.loop-i.i) ⊎ (length c.args.values.now ≤ c.loop-i.i) =
    elim (cases_lt (length c.args.columns.now) (length c.args.values.now)) [ inl f ↦ inl (omega arith) | inr g ↦ inr (omega arith) ] in
    whole_list (seen_row c.loop-i.told.items) (told_from c.args.there c.args.columns.now c.args.values.now c.loop-i.i) _
    (ap (map (told_value c.args.there)) (beside_end c.args.columns.now c.args.values.now c.loop-i.i past)) c.loop-i.invariant.whole
