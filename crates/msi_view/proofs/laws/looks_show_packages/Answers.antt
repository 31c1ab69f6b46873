use Rattle.msi_view.proofs.LawLemmas.{looks_show}
use Rattle.msi_view.proofs.laws.looks_show_packages.Goals as goal

pub returns : goal.returns
returns c = looks_show
