use Rattle.std.proofs.Common.{◌≤◌, ◌⊎◌, ◌∙◌, ℕ, ap, arith, inl, inr, length, subst}
use Rattle.std.proofs.lemmas.Bool.{cases_lt}
use Rattle.msi_transform_rows.specs.RowChanges.{TableChange, values_told}
use Rattle.msi_transform_rows.proofs.ToldValuesLemmas.{all_values}
use Rattle.msi_transform_rows.proofs.table_change.TableChange.added_values.Goals as goal

pub returns-clause-ok : goal.returns-clause-ok
returns-clause-ok c =
    let i = c.loop-i.i in
    let past : (length c.self.inside.columns.now ≤ i) ⊎ (length c.args.cells.now ≤ i) =
    elim (cases_lt (length c.self.inside.columns.now) (length c.args.cells.now)) [ inl f ↦ inl (omega arith) | inr g ↦ inr (omega arith) ] in
    c.from_vec.ensures
    ∙ all_values c.args.self.now c.args.cells.now i c.loop-i.values.items (values_told c.args.self.now c.args.cells.now)
    (subst (λ (n : ℕ). (n ≤ i) ⊎ (length c.args.cells.now ≤ i)) (ap (λ (change : TableChange). length change.columns) c.self.view_is) past)
    c.loop-i.invariant.whole
