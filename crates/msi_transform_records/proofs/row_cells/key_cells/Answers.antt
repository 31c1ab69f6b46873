use Rattle.std.proofs.Common.{◌≡◌, ◌++◌, ◌∷◌, [], length, rules, ap, sym, ◌∙◌}
use Rattle.msi_transform_records.specs.RecordCells.{key_of, key_of_record}
use Rattle.msi_transform_records.proofs.ToldLemmas.{key_passes, key_takes, none_left, passed_over, taken, untold}
use Rattle.msi_transform_records.proofs.row_cells.key_cells.Goals as goal
use Rattle.msi_transform_records.proofs.row_cells.key_cells.Goals.{then-tells+in-Some+then-shapes-i+in_ok-push, then-tells+in-Some+else-shapes-i, else-tells, else-tells-via-else-tells, else-tells-via-then-tells+in-None-1}

pub loop-i-preserved : goal.loop-i-preserved
loop-i-preserved c =
    let shapes = c.args.shapes.now in
    let action = c.args.record.now.action in
    let i = c.loop-i.i in
    let key = c.loop-i.key.items in
    let all = key_of_record shapes c.args.record.now in
    let rest = c.loop-i.rest.now in
    let so_far = c.loop-i.invariant in
    elim c.if-tells.branch [
      | then-tells+in-Some+then-shapes-i+in_ok-push w ↦ (
          let cell = w.in-Some.cell.now in
          let longer : c.if-tells.key.items ≡ key ++ cell ∷ [] = ap (λ v. v.items) w.key-is ∙ w.in_ok-push.ensures.items in
          rw (longer, w.rest-is)
          (taken shapes action i _ c.loop-i-test.true key_of key all rest so_far cell w.in-Some.others.now cell w.in-Some.ensures.cases.0 (sym c.tells.ensures ∙ w.if-tells.true)
          (λ l. key_takes i _ cell l w.if-shapes-i.true)))
      | then-tells+in-Some+else-shapes-i w ↦ (
          let cell = w.in-Some.cell.now in
          rw (w.key-is, w.rest-is)
          (passed_over shapes action i _ c.loop-i-test.true key_of key all rest so_far cell w.in-Some.others.now w.in-Some.ensures.cases.0 (sym c.tells.ensures ∙ w.if-tells.true)
          (λ l. key_passes i _ cell l w.if-shapes-i.false)))
      | else-tells w ↦ elim w.else-tells.branch [
        | else-tells-via-else-tells x ↦ rw (w.key-is, w.rest-is) (untold shapes action i _ c.loop-i-test.true key_of key all rest so_far (sym c.tells.ensures ∙ x.if-tells.false))
        | else-tells-via-then-tells+in-None-1 x ↦ rw (w.key-is, w.rest-is) (none_left shapes action i key_of key all rest so_far (let none : length rest ≡ 0 = search rules in none))
      ]
    ]
