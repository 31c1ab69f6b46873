use Rattle.std.proofs.Common.{◌∙◌}
use Rattle.msi_transform_rows.proofs.KeyedRowsLemmas.{entries_removed, row_of_entries}
use Rattle.msi_transform_rows.proofs.keyed.KeyedRows.remove.Goals as goal

pub returns-clause-held : goal.returns-clause-held
returns-clause-held c = c.remove.ensures.value ∙ row_of_entries c.self.inside.map.entries c.args.self.now c.args.key.now c.self.view_is

pub returns-clause-gone : goal.returns-clause-gone
returns-clause-gone c = entries_removed c.self.inside.map.entries _ c.args.self.now c.args.key.now c.self.view_is c.remove.ensures.updates.0
