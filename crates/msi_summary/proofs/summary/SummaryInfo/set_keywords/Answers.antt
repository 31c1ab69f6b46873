use Rattle.std.specs.Prelude.{codes, string_bytes}
use Rattle.msi_summary.proofs.KeywordLemmas.{join_by-map}
use Rattle.msi_summary.proofs.summary.SummaryInfo.set_keywords.Goals as goal

pub returns-clause-ok : goal.returns-clause-ok
returns-clause-ok c = rw (join_by-map string_bytes (λ word. word) (codes "; ") c.args.keywords.now, ← c.in_ok-text.ensures.ok) c.set_text.ensures.ok
