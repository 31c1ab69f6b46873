use Rattle.std.proofs.Common.{◌≤◌, ◌⊎◌, arith, inl, inr, length}
use Rattle.std.proofs.lemmas.Bool.{cases_lt}
use Rattle.msi_transform_making.proofs.SideLemmas.{differing_from, differs_end, whole_list}
use Rattle.msi_transform_making.proofs.differing.differing_values.Goals as goal

pub returns-clause-ok : goal.returns-clause-ok
returns-clause-ok c =
    let past : (length c.args.old.now ≤ c.loop-i.i) ⊎ (length c.args.new.now ≤ c.loop-i.i) =
    elim (cases_lt (length c.args.old.now) (length c.args.new.now)) [ inl f ↦ inl (omega arith) | inr g ↦ inr (omega arith) ] in
    whole_list c.loop-i.columns.items (differing_from c.args.same c.args.old.now c.args.new.now c.loop-i.i) _
    (differs_end c.args.same c.args.old.now c.args.new.now c.loop-i.i past) c.loop-i.invariant.whole
