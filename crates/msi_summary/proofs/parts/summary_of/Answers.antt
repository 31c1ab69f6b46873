use Rattle.msi_summary.proofs.SummaryReadLemmas.{is_only_summary}
use Rattle.msi_summary.proofs.parts.summary_of.Goals as goal

pub returns-clause-only : goal.returns-clause-only
returns-clause-only c = λ set spelled. is_only_summary c.from_properties.result c.in_ok-read.field-0 set (c.in_ok-read.ensures.only set spelled.0) spelled.1
    c.from_properties.ensures.ok c.from_properties.ensures.refused
