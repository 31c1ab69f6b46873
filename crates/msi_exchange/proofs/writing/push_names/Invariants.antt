use Rattle.std.proofs.Common.{◌≡◌, ◌∷◌, ◌++◌, take, string_bytes}
use Rattle.std.specs.List.{flat_map}
use Rattle.msi_exchange.specs.Writing.{text_field}
use Rattle.msi_exchange.proofs.writing.push_names.Given as goal

abbrev pub invariant-loop-column : goal.invariant-loop-column
invariant-loop-column l = string_bytes l.text ≡ string_bytes l.initial.text ++ flat_map (λ column. 9 ∷ text_field column.name) (take l.column-index l.others)
