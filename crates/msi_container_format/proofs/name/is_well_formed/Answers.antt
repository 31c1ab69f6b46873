use Rattle.msi_container_format.proofs.Utf16Lemmas.{follows_is_text}
use Rattle.msi_container_format.proofs.name.is_well_formed.Goals as goal

pub loop-unit-init : goal.loop-unit-init
loop-unit-init c = follows_is_text c.args.units.now
