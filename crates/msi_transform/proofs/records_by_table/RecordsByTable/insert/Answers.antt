use Rattle.std.proofs.Common.{◌∙◌, ap, string_bytes}
use Rattle.std.specs.FinMap.{entries, put}
use Rattle.msi_base.specs.Lists.{list_cmp}
use Rattle.msi_transform.proofs.RecordsByTableLemmas.{entries_put}
use Rattle.msi_transform.proofs.records_by_table.RecordsByTable.insert.Goals as goal

pub returns-clause-ok : goal.returns-clause-ok
returns-clause-ok c = entries_put c.self.inside.map c.insert.new.self (string_bytes c.args.name) c.args.records c.in_ok-insert.ensures.updates
    ∙ ap (λ m. put list_cmp (string_bytes c.args.name) c.args.records (entries m)) c.self.view_is
