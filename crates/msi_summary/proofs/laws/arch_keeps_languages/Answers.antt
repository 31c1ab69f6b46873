use Rattle.msi_summary.proofs.TemplateLemmas as laws
use Rattle.msi_summary.proofs.laws.arch_keeps_languages.Goals as goal

pub returns : goal.returns
returns c = laws.arch_keeps_languages
