use Rattle.msi_container_write.proofs.reading_back.LayoutHeldLemmas.{layout_holds}
use Rattle.msi_container_write.proofs.laws.layouts_hold_contents.Goals as goal

pub returns : goal.returns
returns c = layout_holds
