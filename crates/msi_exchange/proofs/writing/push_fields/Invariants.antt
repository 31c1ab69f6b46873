use Rattle.std.proofs.Common.{◌≡◌, ◌∷◌, ◌++◌, take, string_bytes}
use Rattle.std.specs.List.{flat_map}
use Rattle.msi_exchange.specs.Writing.{value_field}
use Rattle.msi_exchange.proofs.writing.push_fields.Given as goal

abbrev pub invariant-loop-value : goal.invariant-loop-value
invariant-loop-value l = string_bytes l.text ≡ string_bytes l.initial.text ++ flat_map (λ value. 9 ∷ value_field value) (take l.value-index l.others)
