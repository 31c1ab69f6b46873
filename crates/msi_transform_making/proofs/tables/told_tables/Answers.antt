use Rattle.std.proofs.Common.{◌∙◌, ap}
use Rattle.msi_transform_pair.specs.Names.{names_in}
use Rattle.msi_transform_making.proofs.AlikeLemmas.{names_fit}
use Rattle.msi_transform_making.proofs.tables.told_tables.Goals as goal

pub push_told_tables-requires-clause-new_fit : goal.push_told_tables-requires-clause-new_fit
push_told_tables-requires-clause-new_fit c =
    names_fit c.args.new.now.kept (names_in c.as_slice-2.result.now) (ap names_in c.as_slice-2.ensures.value ∙ c.in_ok-names.ensures.ok) c.requires.new_fit
