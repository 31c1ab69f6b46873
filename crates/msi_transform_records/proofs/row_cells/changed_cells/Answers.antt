use Rattle.std.proofs.Common.{◌≡◌, ◌++◌, ◌∷◌, [], length, arith, ap, sym, ◌∙◌}
use Rattle.msi_transform_records.specs.RecordCells.{changes_of, changes_of_record}
use Rattle.msi_transform_records.proofs.ToldLemmas.{changes_pass, changes_take, none_left, passed_over, taken, untold}
use Rattle.msi_transform_records.proofs.row_cells.changed_cells.Goals as goal
use Rattle.msi_transform_records.proofs.row_cells.changed_cells.Goals.{then-tells+in-Some+then-not-of_key+in_ok-push, then-tells+in-Some+else-not-of_key, else-tells, else-tells-via-else-tells, else-tells-via-then-tells+in-None-1}

pub loop-i-preserved : goal.loop-i-preserved
loop-i-preserved c =
    let shapes = c.args.shapes.now in
    let action = c.args.record.now.action in
    let i = c.loop-i.i in
    let changes = c.loop-i.changes.items in
    let all = changes_of_record shapes c.args.record.now in
    let rest = c.loop-i.rest.now in
    let so_far = c.loop-i.invariant in
    elim c.if-tells.branch [
      | then-tells+in-Some+then-not-of_key+in_ok-push w ↦ (
          let cell = w.in-Some.cell.now in
          let longer : c.if-tells.changes.items ≡ changes ++ (i, cell) ∷ [] = ap (λ v. v.items) w.changes-is ∙ w.in_ok-push.ensures.items in
          rw (longer, w.rest-is)
          (taken shapes action i _ c.loop-i-test.true changes_of changes all rest so_far cell w.in-Some.others.now (i, cell) w.in-Some.ensures.cases.0 (sym c.tells.ensures ∙ w.if-tells.true)
          (λ l. changes_take i _ cell l w.if-not-of_key.true)))
      | then-tells+in-Some+else-not-of_key w ↦ (
          let cell = w.in-Some.cell.now in
          rw (w.changes-is, w.rest-is)
          (passed_over shapes action i _ c.loop-i-test.true changes_of changes all rest so_far cell w.in-Some.others.now w.in-Some.ensures.cases.0 (sym c.tells.ensures ∙ w.if-tells.true)
          (λ l. changes_pass i _ cell l w.if-not-of_key.false)))
      | else-tells w ↦ elim w.else-tells.branch [
        | else-tells-via-else-tells x ↦ rw (w.changes-is, w.rest-is) (untold shapes action i _ c.loop-i-test.true changes_of changes all rest so_far (sym c.tells.ensures ∙ x.if-tells.false))
        | else-tells-via-then-tells+in-None-1 x ↦ rw (w.changes-is, w.rest-is) (none_left shapes action i changes_of changes all rest so_far (let none : length rest ≡ 0 = grind arith in none))
      ]
    ]
