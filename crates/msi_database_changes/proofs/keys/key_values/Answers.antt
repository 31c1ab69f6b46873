use Rattle.std.proofs.Common.{◌≤◌, ◌++◌, ◌⊎◌, List, length, sym, ap, ◌∙◌, arith, inl, inr}
use Rattle.std.proofs.lemmas.Bool.{cases_lt}
use Rattle.std.proofs.lemmas.List.{append-nil}
use Rattle.msi_table_values.specs.declared.value.Value.{Value}
use Rattle.msi_table_cells.specs.KeyOrder.{key_of}
use Rattle.msi_database_changes.specs.Views.{seen_row}
use Rattle.msi_database_changes.proofs.row_keys.ViewLemmas.{no_part, one_part, no_parts}
use Rattle.msi_database_changes.proofs.keys.key_values.Goals as goal

pub loop-i-preserved-then-not-is_primary_key : goal.loop-i-preserved-then-not-is_primary_key
loop-i-preserved-then-not-is_primary_key c = record {
  whole = ap (λ (vs : List Value). seen_row c.loop-i.values.items ++ vs) (sym (no_part c.args.columns.now c.args.row.now c.loop-i.i c.index-columns-i.result
      (omega arith) (omega arith) c.index-columns-i.is (sym c.is_primary_key.ensures ∙ c.if-not-is_primary_key.true)))
      ∙ c.loop-i.invariant.whole;
}

pub loop-i-preserved : goal.loop-i-preserved
loop-i-preserved c = record {
  whole = one_part c.args.columns.now c.args.row.now c.loop-i.values.items c.push.new.self.items c.loop-i.i c.index-columns-i.result
      (key_of c.args.columns.now (seen_row c.args.row.now)) (omega arith) (omega arith) c.index-columns-i.is
      (sym c.is_primary_key.ensures ∙ c.if-not-is_primary_key.false) c.in_ok-push.ensures.items c.loop-i.invariant.whole;
}

pub returns-clause-ok : goal.returns-clause-ok
returns-clause-ok c =
    let past : (length c.args.columns.now ≤ c.loop-i.i) ⊎ (length c.args.row.now ≤ c.loop-i.i) =
    elim (cases_lt (length c.args.columns.now) (length c.args.row.now)) [ inl f ↦ inl (omega arith) | inr g ↦ inr (omega arith) ] in
    sym (append-nil (seen_row c.loop-i.values.items))
    ∙ ap (λ (vs : List Value). seen_row c.loop-i.values.items ++ vs) (sym (no_parts c.args.columns.now c.args.row.now c.loop-i.i past))
    ∙ c.loop-i.invariant.whole
