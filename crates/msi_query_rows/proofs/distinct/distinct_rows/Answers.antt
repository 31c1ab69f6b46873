use Rattle.std.proofs.Common.{[], ◌+◌, List, ap, sym, subst, ◌∙◌}
use Rattle.std.proofs.lemmas.Bool.{not-true, not-false}
use Rattle.msi_table_cells.specs.declared.cell.ValueRef.{ValueRef}
use Rattle.msi_table_cells.specs.CellValues.{row_values}
use Rattle.msi_query.specs.Rows.{rows_values}
use Rattle.msi_query.specs.Selection.{unseen}
use Rattle.msi_query_rows.proofs.DistinctLemmas.{HasSeen, once_from, row_kept, row_left, seen_already, seen_more, seen_of_kept}
use Rattle.msi_query_rows.proofs.distinct.distinct_rows.Goals as goal
use Rattle.msi_query_rows.proofs.distinct.distinct_rows.Goals.{then-branch+in_ok-copied_row+in_ok-push, else-branch}

pub loop-row-preserved : goal.loop-row-preserved
loop-row-preserved c =
    let places = c.args.pool.now.places in
    let cells = c.as_slice-cells.result.now in
    let rows = c.args.rows.now in
    let i = c.loop-row.row-index in
    let kept = c.loop-row.kept.items in
    elim c.if-branch.branch [
      | then-branch+in_ok-copied_row+in_ok-push w ↦
          let absent = not-true _ (sym c.in_ok-insert.ensures.added ∙ w.if-branch.true) in
          record {
            known = seen_of_kept places kept c.if-branch.kept.items cells w.in_ok-copied_row.field-0 c.insert.new.self
                w.in_ok-copied_row.ensures.ok (ap (λ v. v.items) w.kept-is ∙ w.in_ok-push.ensures.items)
                (seen_more c.loop-row.seen c.insert.new.self (rows_values places kept) (row_values places cells) c.loop-row.invariant.known c.in_ok-insert.ensures.updates);
            once = row_kept places kept c.if-branch.kept.items rows i c.row-item.result cells w.in_ok-copied_row.field-0 c.loop-row.seen (unseen [] (rows_values places rows))
                c.loop-row-test.true c.row-item.is c.as_slice-cells.ensures w.in_ok-copied_row.ensures.ok (ap (λ v. v.items) w.kept-is ∙ w.in_ok-push.ensures.items)
                c.loop-row.invariant.known absent c.loop-row.invariant.once;
          }
      | else-branch w ↦
          let there = not-false _ (sym c.in_ok-insert.ensures.added ∙ w.if-branch.false) in
          record {
            known = subst (λ (ks : List (List ValueRef)). HasSeen c.insert.new.self (rows_values places ks)) (sym (ap (λ v. v.items) w.kept-is))
                (seen_already c.loop-row.seen c.insert.new.self (rows_values places kept) (row_values places cells) c.loop-row.invariant.known there c.in_ok-insert.ensures.updates);
            once = row_left places kept rows i c.row-item.result cells c.loop-row.seen (unseen [] (rows_values places rows))
                c.loop-row-test.true c.row-item.is c.as_slice-cells.ensures c.loop-row.invariant.known there c.loop-row.invariant.once
                ∙ ap (λ (ks : List (List ValueRef)). once_from places ks rows (i + 1)) (sym (ap (λ v. v.items) w.kept-is));
          }
    ]
