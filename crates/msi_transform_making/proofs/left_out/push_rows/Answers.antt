use Rattle.std.proofs.Common.{◌+◌, ◌++◌, ◌∙◌, [], ◌∷◌, List, ap, append_assoc, drop, sym}
use Rattle.msi_table.proofs.GivenLemmas.{drop_given}
use Rattle.msi_table_cells.specs.declared.cell.ValueRef.{ValueRef}
use Rattle.msi_transform_making.proofs.left_out.push_rows.Goals as goal

pub loop-at-preserved : goal.loop-at-preserved
loop-at-preserved c =
    let stored = c.args.stored.now.rows in let before = c.loop-at.rows.items in let at = c.loop-at.at in let row = c.in_ok-row.field-0 in record {
      whole = ap (λ (rows : List (List ValueRef)). rows ++ drop (at + 1) stored) c.in_ok-push.ensures.items
          ∙ append_assoc before (row ∷ []) (drop (at + 1) stored)
          ∙ ap (λ (rows : List (List ValueRef)). before ++ rows) (sym (drop_given stored at row c.in_ok-row.ensures.ok))
          ∙ c.loop-at.invariant.whole;
    }
