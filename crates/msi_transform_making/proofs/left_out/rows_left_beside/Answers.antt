use Rattle.std.proofs.lemmas.Result.{IfOk-weaker}
use Rattle.msi_transform_schema.specs.SchemaApplying.{system_rows}
use Rattle.msi_transform_making.proofs.LeftOutSteps.{cells_there}
use Rattle.msi_transform_making.proofs.left_out.rows_left_beside.Goals as goal

pub returns-in-Some-clause-ok : goal.returns-in-Some-clause-ok
returns-in-Some-clause-ok c =
    IfOk-weaker c.rows_left.result _ _
    (λ left are. cells_there c.args.texts.now c.args.rows.now.rows c.in-Some.others.rows (system_rows c.args.old.now.kept.database c.args.table.now)
    (system_rows c.args.new.now.kept.database c.args.table.now) left.old.items left.new.items c.requires c.in-Some.ensures are) c.rows_left.ensures.ok
