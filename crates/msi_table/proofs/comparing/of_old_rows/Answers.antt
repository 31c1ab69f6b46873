use Rattle.std.proofs.Common.{◌≡◌, ◌++◌, ◌+◌, ◌<◌, ℕ, List, [], ◌∷◌, Option, Some, None, length, take, get_or, sym, ap, ◌∙◌, arith}
use Rattle.std.specs.Option.{option_to_list}
use Rattle.std.proofs.lemmas.List.{append-nil}
use Rattle.msi_table_values.specs.declared.value.Value.{Value}
use Rattle.msi_table.specs.declared.comparing.Difference.{Difference}
use Rattle.msi_table.specs.Differences.{each_from, of_old}
use Rattle.msi_table.proofs.EachLemmas.{each_more}
use Rattle.msi_table.proofs.comparing.of_old_rows.Goals as goal
use Rattle.msi_table.proofs.comparing.of_old_rows.Goals.{in-Some+in_ok-push-in-Some, in-None}

pub loop-i-preserved : goal.loop-i-preserved
loop-i-preserved c =
    let makes : ℕ → List Value → Option Difference = of_old c.args.columns.now c.args.new.now in
    let rows : List (List Value) = c.args.old.now in
    let row : List Value = c.index-old-i.result in
    let so_far : List Difference = each_from makes 0 (take c.loop-i.i rows) in
    let step : each_from makes 0 (take (c.loop-i.i + 1) rows) ≡ so_far ++ option_to_list (makes c.loop-i.i row) =
    each_more makes rows c.loop-i.i row (omega arith) (sym c.index-old-i.is) in
    let made : c.in_ok-difference.field-0 ≡ makes c.loop-i.i row = c.in_ok-difference.ensures.ok c.in_ok-index.ensures.ok ∙ ap (makes c.loop-i.i) c.as_slice.ensures in
    elim c.match-branch-3.branch [
      | in-Some+in_ok-push-in-Some w ↦ record {
        so_far = ap (λ v. v.items) w.found-is ∙ w.in_ok-push-in-Some.ensures.items
            ∙ ap (λ (ds : List Difference). ds ++ w.in-Some.difference ∷ []) c.loop-i.invariant.so_far
            ∙ ap (λ (o : Option Difference). so_far ++ option_to_list o) (sym w.in-Some.is ∙ made) ∙ sym step;
      }
      | in-None w ↦ record {
        so_far = ap (λ v. v.items) w.found-is ∙ c.loop-i.invariant.so_far ∙ sym (append-nil so_far)
            ∙ ap (λ (o : Option Difference). so_far ++ option_to_list o) (sym w.in-None.is ∙ made) ∙ sym step;
      }
    ]
