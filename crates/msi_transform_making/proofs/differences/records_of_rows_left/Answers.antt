use Rattle.std.proofs.Common.{◌∙◌}
use Rattle.std.proofs.lemmas.Result.{IfOk-weaker}
use Rattle.std.specs.FinMap.{entries}
use Rattle.msi_transform_making.proofs.AlikeLemmas.{told_of_left}
use Rattle.msi_transform_making.proofs.differences.records_of_rows_left.Goals as goal

pub returns-clause-ok : goal.returns-clause-ok
returns-clause-ok c =
    let left = c.in_ok-left.left in
    IfOk-weaker c.differences.result _ _ (λ records is. is
    ∙ told_of_left c.args.old.now.kept c.args.new.now.kept c.args.table.now c.args.texts.now left.old.items left.new.items c.as_slice.result.now c.as_slice-2.result.now
    c.columns_of.result.now c.columns_of-columns.result.now (entries c.in_ok-rows.rows) (entries c.in_ok-others.others)
    c.columns_of.ensures.value c.columns_of-columns.ensures.value c.as_slice.ensures.value c.as_slice-2.ensures.value c.in_ok-rows.ensures.ok c.in_ok-others.ensures.ok
    c.requires.alike c.requires.old_keys c.requires.new_keys c.requires.texts c.in_ok-left.ensures.ok) c.differences.ensures.ok
