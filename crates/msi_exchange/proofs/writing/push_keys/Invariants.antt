use Rattle.std.proofs.Common.{◌≡◌, ◌∷◌, ◌++◌, take, string_bytes}
use Rattle.std.specs.List.{flat_map}
use Rattle.msi_exchange.specs.Writing.{text_field}
use Rattle.msi_exchange.proofs.writing.push_keys.Given as goal

abbrev pub invariant-loop-key : goal.invariant-loop-key
invariant-loop-key l = string_bytes l.text ≡ string_bytes l.initial.text ++ flat_map (λ key. 9 ∷ text_field key) (take l.key-index l.archive.head.keys)
