use Rattle.std.proofs.Common.{None, ◌++◌, ◌∷◌, [], ap, sym, ◌∙◌}
use Rattle.std.specs.Prelude.{option_copied}
use Rattle.msi_table_values.specs.Columns.{ColumnDef}
use Rattle.msi_query.proofs.SelectionLemmas.{column_kept, no_column_kept}
use Rattle.msi_query_rows.proofs.columns.columns_of.Goals as goal
use Rattle.msi_query_rows.proofs.columns.columns_of.Goals.{in-Some+in_ok-clone+in_ok-push, in_default}

pub loop-place-preserved : goal.loop-place-preserved
loop-place-preserved c = elim c.match-column_at.branch [
  | in-Some+in_ok-clone+in_ok-push w ↦ record {
    kept = column_kept c.args.columns.now c.loop-place.kept.items c.match-column_at.kept.items c.args.places.now c.loop-place.place-index None w.in-Some.column.now c.loop-place-test.true
        (sym c.column_at.ensures ∙ ap option_copied w.in-Some.is)
        (ap (λ v. v.items) w.kept-is ∙ w.in_ok-push.ensures.items ∙ ap (λ (x : ColumnDef). c.loop-place.kept.items ++ x ∷ []) w.in_ok-clone.ensures.ok)
        c.loop-place.invariant.kept;
  }
  | in_default w ↦ record {
    kept = ap (λ v. v.items) w.kept-is ∙ no_column_kept c.args.columns.now c.loop-place.kept.items c.args.places.now c.loop-place.place-index None c.loop-place-test.true
        (sym c.column_at.ensures ∙ ap option_copied w.in_default.is) c.loop-place.invariant.kept;
  }
]
