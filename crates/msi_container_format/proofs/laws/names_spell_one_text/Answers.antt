use Rattle.std.proofs.Common.{IsTrue, subst, sym}
use Rattle.msi_container_format.specs.Names.{SpellOneText, is_text}
use Rattle.msi_container_format.proofs.SpelledUnitsLemmas.{spell_one_text}
use Rattle.msi_container_format.proofs.laws.names_spell_one_text.Goals as goal

pub returns : goal.returns
returns c = subst SpellOneText c.units.ensures.units (spell_one_text c.units.result.now c.look_at_units.ensures (subst (λ us. IsTrue (is_text us)) (sym c.units.ensures.units) c.units.ensures.text))
