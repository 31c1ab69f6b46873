use Rattle.std.proofs.Common.{◌∙◌, sym}
use Rattle.std.proofs.lemmas.Result.{IfOk-weaker}
use Rattle.msi_transform_making.specs.Making.{columns_in_table}
use Rattle.msi_transform_making.proofs.AlikeLemmas.{alike_there, beside_alike}
use Rattle.msi_transform_making.proofs.differences.records_beside.Goals as goal

pub records_of_rows_left-requires-clause-alike : goal.records_of_rows_left-requires-clause-alike
records_of_rows_left-requires-clause-alike c =
    alike_there c.columns_of-before.result.now c.columns_of.result.now (columns_in_table c.args.old.now.kept c.args.table.now) (columns_in_table c.args.new.now.kept c.args.table.now)
    c.columns_of-before.ensures.value c.columns_of.ensures.value (c.are_told_alike.ensures c.if-are_told_alike.true)

pub returns-then-are_told_alike-clause-ok : goal.returns-then-are_told_alike-clause-ok
returns-then-are_told_alike-clause-ok c =
    IfOk-weaker c.records_of_rows_left.result _ _
    (λ records is. is ∙ sym (beside_alike c.args.old.now.kept c.args.new.now.kept c.args.table.now
    (alike_there c.columns_of-before.result.now c.columns_of.result.now (columns_in_table c.args.old.now.kept c.args.table.now) (columns_in_table c.args.new.now.kept c.args.table.now)
    c.columns_of-before.ensures.value c.columns_of.ensures.value (c.are_told_alike.ensures c.if-are_told_alike.true))))
    c.records_of_rows_left.ensures.ok
