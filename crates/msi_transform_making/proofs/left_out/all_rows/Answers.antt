use Rattle.msi_transform_schema.specs.SchemaApplying.{system_rows}
use Rattle.msi_transform_making.proofs.LeftOutSteps.{cells_stay}
use Rattle.msi_transform_making.proofs.left_out.all_rows.Goals as goal

pub returns-clause-ok : goal.returns-clause-ok
returns-clause-ok c =
    cells_stay c.args.texts.now (system_rows c.args.old.now.kept.database c.args.table.now) (system_rows c.args.new.now.kept.database c.args.table.now)
    c.in_ok-rows.rows.items c.in_ok-others.others.items c.in_ok-rows.ensures.ok c.in_ok-others.ensures.ok
