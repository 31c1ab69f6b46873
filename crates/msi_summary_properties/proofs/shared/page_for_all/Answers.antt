use Rattle.std.proofs.Common.{refl}
use Rattle.msi_summary_properties.proofs.shared.page_for_all.Goals as goal

pub returns-then-reads_any-clause-page : goal.returns-then-reads_any-clause-page
returns-then-reads_any-clause-page c = rw (← c.reads_any.ensures, c.if-reads_any.true) refl

pub returns-else-reads_any-clause-page : goal.returns-else-reads_any-clause-page
returns-else-reads_any-clause-page c = rw (← c.reads_any.ensures, c.if-reads_any.false) refl
