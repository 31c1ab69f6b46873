use Rattle.std.proofs.Common.{◌≡◌}
use Rattle.msi_code_pages.proofs.decoder.characters_of.Given as goal

abbrev pub invariant-loop-character : goal.invariant-loop-character
invariant-loop-character l = l.characters.items ≡ l.yielded
