use Rattle.std.proofs.Common.{◌∙◌, sym}
use Rattle.msi_transform_making.proofs.AlikeLemmas.{old_keys_of_fit, own_keys_of_fit}
use Rattle.msi_transform_making.proofs.differences.records_of_table.Goals as goal

pub records_beside-requires-clause-old_keys : goal.records_beside-requires-clause-old_keys
records_beside-requires-clause-old_keys c =
    old_keys_of_fit c.args.old.now.kept c.args.new.now.kept c.args.table.now c.requires.old_fit c.requires.new_fit (sym c.has_table.ensures ∙ c.if-not-has_table.false)

pub records_beside-requires-clause-new_keys : goal.records_beside-requires-clause-new_keys
records_beside-requires-clause-new_keys c = own_keys_of_fit c.args.new.now.kept c.args.table.now c.requires.new_fit
