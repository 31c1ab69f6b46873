use Rattle.std.proofs.Common.{◌++◌, ◌∙◌, ℕ, List, ap, sym}
use Rattle.std.proofs.lemmas.List.{append-nil}
use Rattle.std.specs.FinMap.{entries}
use Rattle.std.specs.List.{flat_map}
use Rattle.msi_table_values.specs.declared.value.Value.{Value}
use Rattle.msi_transform_applying.specs.ExpectedStreams.{row_expects}
use Rattle.msi_transform_applying.specs.LeftInHand.{base_of}
use Rattle.msi_transform_rows.specs.declared.row.RowInHand.{RowInHand}
use Rattle.msi_transform_applying.proofs.StayingLemmas.{added_all, no_rows_of_staying, rows_of_staying}
use Rattle.msi_transform_applying.proofs.agreeing.push_of_rows.Goals as goal

pub returns-in_default-clause-ok : goal.returns-in_default-clause-ok
returns-in_default-clause-ok c = let s = c.args.change.now in let before = c.args.expected.now.items in
    sym (append-nil before)
    ∙ ap (λ (rows : List (List Value × RowInHand)). before ++ flat_map (row_expects (base_of s) s.by c.args.said.now c.args.table.now.name) rows)
    (no_rows_of_staying s (entries c.streams.result.now) c.streams.ensures.value c.args.table.now c.requires c.in_default.ensures)

pub returns-clause-ok : goal.returns-clause-ok
returns-clause-ok c = let s = c.args.change.now in
    let expects = λ (name : List ℕ). row_expects (base_of s) s.by c.args.said.now name in
    added_all (expects c.name.result.now) (expects c.args.table.now.name) _ _ c.args.expected.now.items c.push_of_stored.new.expected.items
    (ap expects c.name.ensures)
    (rows_of_staying s (entries c.streams.result.now) c.streams.ensures.value c.args.table.now c.requires c.in-Some.rows c.in-Some.ensures)
    c.in_ok-push_of_stored.ensures.ok
