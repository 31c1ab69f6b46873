use Rattle.std.proofs.Common.{◌∙◌, ap, length}
use Rattle.std.specs.FinMap.{entries}
use Rattle.msi_transform.specs.RecordsByTable.{by_text}
use Rattle.msi_transform.proofs.RecordsByTableLemmas.{entries_in_order, len_by_text}
use Rattle.msi_transform.proofs.records_by_table.RecordsByTable.iter.Goals as goal

pub returns-clause-rest : goal.returns-clause-rest
returns-clause-rest c = let es = c.self.inside.map.entries in
    ap by_text c.iter.ensures.rest ∙ entries_in_order es c.iter.ensures.ordered ∙ ap entries c.self.view_is

pub returns-clause-len : goal.returns-clause-len
returns-clause-len c = len_by_text c.iter.result ∙ ap length (returns-clause-rest c)
