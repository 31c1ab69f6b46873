use Rattle.std.proofs.Common.{◌≡◌, ◌++◌, map, string_bytes, encode_utf8_all}
use Rattle.msi_exchange.specs.Characters.{swapped}
use Rattle.msi_exchange.proofs.characters.push_each_swapped.Given as goal

abbrev pub invariant-loop-character : goal.invariant-loop-character
invariant-loop-character l = string_bytes l.text ≡ string_bytes l.initial.text ++ encode_utf8_all (map swapped l.yielded)
