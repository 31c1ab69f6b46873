use Rattle.std.proofs.Common.{◌+◌, ◌≤◌, ◌⊎◌, ◌++◌, ◌∙◌, List, ap, arith, inl, inr, length, map, refl, sym}
use Rattle.std.proofs.lemmas.Bool.{cases_lt}
use Rattle.msi_table_values.specs.declared.value.Value.{Value}
use Rattle.msi_table_values.specs.Columns.{ColumnDef}
use Rattle.msi_table_values.specs.Views.{seen_value}
use Rattle.msi_database_changes.specs.Views.{seen_row}
use Rattle.msi_transform_making.proofs.SideLemmas.{marked_end, marked_from, marked_no, marked_yes, one_more, view_at, whole_list}
use Rattle.msi_transform_making.proofs.record.marked_values.Goals as goal

pub returns-clause-ok : goal.returns-clause-ok
returns-clause-ok c =
    let past : (length c.args.columns.now ≤ c.loop-i.i) ⊎ (length c.args.values.now ≤ c.loop-i.i) =
    elim (cases_lt (length c.args.columns.now) (length c.args.values.now)) [ inl f ↦ inl (omega arith) | inr g ↦ inr (omega arith) ] in
    c.from_vec.ensures
    ∙ whole_list (seen_row c.loop-i.told.items) (map (λ e. e.1) (marked_from c.args.columns.now c.args.marked.now c.args.values.now c.loop-i.i)) _
    (ap (map (λ (e : ColumnDef × Value). e.1)) (marked_end c.args.columns.now c.args.marked.now c.args.values.now c.loop-i.i past)) c.loop-i.invariant.whole

pub loop-i-preserved-then-not-is_marked : goal.loop-i-preserved-then-not-is_marked
loop-i-preserved-then-not-is_marked c = record {
  whole = ap (λ (es : List (ColumnDef × Value)). seen_row c.loop-i.told.items ++ map (λ e. e.1) es)
      (sym (marked_no c.args.columns.now c.args.marked.now c.args.values.now c.loop-i.i c.index-columns-i.result (omega arith) (omega arith) c.index-columns-i.is
      (sym c.is_marked.ensures ∙ c.if-not-is_marked.true)))
      ∙ c.loop-i.invariant.whole;
}

pub loop-i-preserved : goal.loop-i-preserved
loop-i-preserved c = record {
  whole = one_more c.loop-i.told.items c.push.new.self.items (view_at c.args.values.now c.loop-i.i) (seen_value (view_at c.args.values.now c.loop-i.i))
      (map (λ e. e.1) (marked_from c.args.columns.now c.args.marked.now c.args.values.now (c.loop-i.i + 1))) (map (λ e. e.1) (marked_from c.args.columns.now c.args.marked.now c.args.values.now c.loop-i.i)) _
      c.in_ok-push.ensures.items refl
      (ap (map (λ (e : ColumnDef × Value). e.1)) (marked_yes c.args.columns.now c.args.marked.now c.args.values.now c.loop-i.i c.index-columns-i.result (omega arith) (omega arith) c.index-columns-i.is
      (sym c.is_marked.ensures ∙ c.if-not-is_marked.false)))
      c.loop-i.invariant.whole;
}
