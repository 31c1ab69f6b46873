-- The units that are left decide.
use Rattle.std.proofs.Common.{◌≡◌, drop}
use Rattle.msi_container_format.specs.Names.{is_text}
use Rattle.msi_container_format.proofs.Utf16Lemmas.{follows}
use Rattle.msi_container_format.proofs.name.is_well_formed.Given as goal

abbrev pub invariant-loop-unit : goal.invariant-loop-unit
invariant-loop-unit l = follows l.awaits_low (drop l.unit-index l.units) ≡ is_text l.units
