use Rattle.std.proofs.Common.{arith}
use Rattle.msi_transform_making.proofs.AlikeLemmas.{fit_at}
use Rattle.msi_transform_making.proofs.tables.push_told_tables.Goals as goal

pub told_table-requires-clause-new_fit : goal.told_table-requires-clause-new_fit
told_table-requires-clause-new_fit c = fit_at c.args.new.now.kept c.args.names.now c.requires.new_fit c.loop-name.name-index _ (omega arith)
