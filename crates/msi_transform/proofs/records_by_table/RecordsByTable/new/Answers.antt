use Rattle.msi_transform.proofs.RecordsByTableLemmas.{no_entries}
use Rattle.msi_transform.proofs.records_by_table.RecordsByTable.new.Goals as goal

pub returns : goal.returns
returns c = no_entries c.new.result.entries c.new.ensures.empty
