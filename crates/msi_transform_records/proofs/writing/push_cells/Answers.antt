use Rattle.std.proofs.Common.{◌≡◌, ◌∙◌, ℕ, Bool, List, length, refl, rules, sym}
use Rattle.std.specs.Prelude.{flat_map}
use Rattle.msi_table_cells.specs.declared.cell.ValueRef.{ValueRef}
use Rattle.msi_transform_records.specs.declared.shape.Shape.{Shape}
use Rattle.msi_transform_records.specs.Cells.{bytes_of_cell}
use Rattle.msi_transform_records.proofs.ToldLemmas.{none_left, taken_all, untold}
use Rattle.msi_transform_records.proofs.writing.push_cells.Goals as goal

abbrev spelled : Bool → List ((ℕ × Shape) × ValueRef) → List ℕ
spelled long cells = flat_map (λ (told : (ℕ × Shape) × ValueRef). bytes_of_cell long told.0.1.coltype told.1) cells

pub loop-i-preserved-then-not-tells : goal.loop-i-preserved-then-not-tells
loop-i-preserved-then-not-tells c = record {
  all = untold c.args.shapes.now c.args.action c.loop-i.i _ c.loop-i-test.true (spelled c.args.long) c.loop-i.bytes.items _ c.loop-i.rest.now c.loop-i.invariant.all
      (sym c.tells.ensures ∙ c.if-not-tells.true);
}

pub loop-i-preserved-in_default : goal.loop-i-preserved-in_default
loop-i-preserved-in_default c =
    let none : length c.loop-i.rest.now ≡ 0 = search rules in
    record { all = none_left c.args.shapes.now c.args.action c.loop-i.i (spelled c.args.long) c.loop-i.bytes.items _ c.loop-i.rest.now c.loop-i.invariant.all none }

pub loop-i-preserved : goal.loop-i-preserved
loop-i-preserved c = record {
  all = rw c.in_ok-push_cell.ensures.ok (taken_all c.args.shapes.now c.args.action c.loop-i.i _ c.loop-i-test.true (spelled c.args.long) c.loop-i.bytes.items _ c.loop-i.rest.now c.loop-i.invariant.all
      c.in-Some.cell.now c.in-Some.others.now _ c.in-Some.ensures.cases.0 (sym c.tells.ensures ∙ c.if-not-tells.false) (λ _. refl));
}
