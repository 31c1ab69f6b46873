use Rattle.std.proofs.Common.{◌∙◌, ap, length}
use Rattle.std.specs.FinMap.{entries}
use Rattle.msi_transform.proofs.RecordsByTableLemmas.{entries_in_order, len_by_text}
use Rattle.msi_transform.proofs.records_by_table.RecordsByTable.len.Goals as goal

pub returns : goal.returns
returns c = let es = c.self.inside.map.entries in
    c.len.ensures.len ∙ len_by_text es ∙ ap length (entries_in_order es c.len.ensures.ordered) ∙ ap (λ m. length (entries m)) c.self.view_is
