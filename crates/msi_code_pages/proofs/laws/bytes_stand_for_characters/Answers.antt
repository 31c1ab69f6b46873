use Rattle.msi_code_pages.proofs.LawsLemmas.{bytes_stand_for_characters}
use Rattle.msi_code_pages.proofs.laws.bytes_stand_for_characters.Goals as goal

pub returns : goal.returns
returns c = bytes_stand_for_characters
