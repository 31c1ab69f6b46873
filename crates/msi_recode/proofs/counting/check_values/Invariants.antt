use Rattle.std.proofs.Common.{◌≤◌, length, take}
use Rattle.msi_recode.specs.Readers.{page_of}
use Rattle.msi_recode.specs.SummaryRecoding.{most_size}
use Rattle.msi_recode.proofs.CountingLemmas.{AreCounted}
use Rattle.msi_recode.proofs.counting.check_values.Given as goal

abbrev pub invariant-loop-id : goal.invariant-loop-id
invariant-loop-id l = AreCounted l.version (page_of l.reader) l.bytes l.section (take l.id-index l.pairs) l.ids l.size × (l.size ≤ most_size (length l.bytes))
