use Rattle.msi_view.proofs.LawLemmas.{parts_refuse}
use Rattle.msi_view.proofs.laws.parts_refuse_as_opening.Goals as goal

pub returns : goal.returns
returns c = parts_refuse
