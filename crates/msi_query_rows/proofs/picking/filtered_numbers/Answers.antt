use Rattle.std.proofs.Common.{◌≡◌, ap, sym, ◌∙◌, length, List, Bool}
use Rattle.std.proofs.lemmas.Option.{slice_get_within}
use Rattle.msi_table_values.specs.declared.value.Value.{Value}
use Rattle.msi_table_cells.specs.CellValues.{row_values}
use Rattle.msi_query_expressions.specs.Conditions.{meets}
use Rattle.msi_query_rows.proofs.PickingLemmas.{number_inside, number_kept, number_passed}
use Rattle.msi_query_rows.proofs.picking.filtered_numbers.Goals as goal
use Rattle.msi_query_rows.proofs.picking.filtered_numbers.Goals.{then-branch+in_ok-push, else-branch}

pub loop-i-preserved : goal.loop-i-preserved
loop-i-preserved c =
    let places = c.args.pool.now.places in
    let rows = c.args.stored.now.rows in
    let test : List Value → Bool = meets c.args.test.now.columns c.args.test.now.condition in
    let row = c.in_ok-row.row in
    let at = c.in_ok-row.ensures.ok in
    let met : test (row_values places row) ≡ c.in_ok-meets.field-0 = ap (λ r. test (row_values places r)) (sym c.as_slice.ensures) ∙ sym c.in_ok-meets.ensures.ok in
    elim c.if-branch.branch [
      | then-branch+in_ok-push w ↦
          let more = ap (λ v. v.items) w.numbers-is ∙ w.in_ok-push.ensures.items in
          record {
            kept = number_kept places test rows c.loop-i.numbers.items c.if-branch.numbers.items c.loop-i.i row at (met ∙ w.if-branch.true) more c.loop-i.invariant.kept;
            inside = number_inside (length rows) c.loop-i.numbers.items c.if-branch.numbers.items c.loop-i.i (slice_get_within rows c.loop-i.i row at) more c.loop-i.invariant.inside;
          }
      | else-branch w ↦ rw w.numbers-is (record {
        kept = number_passed places test rows c.loop-i.numbers.items c.loop-i.i row at (met ∙ w.if-branch.false) c.loop-i.invariant.kept;
        inside = c.loop-i.invariant.inside;
      })
    ]
