use Rattle.msi_summary.proofs.TemplateLemmas as laws
use Rattle.msi_summary.proofs.laws.languages_keep_arch.Goals as goal

pub returns : goal.returns
returns c = laws.languages_keep_arch
