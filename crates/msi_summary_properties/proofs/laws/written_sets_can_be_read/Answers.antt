use Rattle.msi_summary_properties.proofs.WrittenTextsLemmas.{can_be_read}
use Rattle.msi_summary_properties.proofs.laws.written_sets_can_be_read.Goals as goal

pub returns : goal.returns
returns c = can_be_read c.args.set.now c.values-values.ensures.kept c.is_writable-writable.ensures.utf8
