use Rattle.msi_transform_schema.proofs.TablesByNameLemmas.{no_entries}
use Rattle.msi_transform_schema.proofs.tables_by_name.TablesByName.new.Goals as goal

pub returns : goal.returns
returns c = no_entries c.new.result.entries c.new.ensures.empty
