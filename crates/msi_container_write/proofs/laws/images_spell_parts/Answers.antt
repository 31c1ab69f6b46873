use Rattle.msi_container_write.proofs.reading_back.SpelledPartsLemmas.{spelled_image}
use Rattle.msi_container_write.proofs.laws.images_spell_parts.Goals as goal

pub returns : goal.returns
returns c = spelled_image
