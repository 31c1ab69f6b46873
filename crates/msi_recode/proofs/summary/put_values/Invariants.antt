use Rattle.std.proofs.Common.{take}
use Rattle.msi_recode.specs.Readers.{page_of}
use Rattle.msi_recode.specs.SummaryReading.{ArePut}
use Rattle.msi_recode.proofs.summary.put_values.Given as goal

abbrev pub invariant-loop-id : goal.invariant-loop-id
invariant-loop-id l = ArePut l.version (page_of l.reader) l.bytes l.section (take l.id-index l.pairs) l.fn.set l.set
