use Rattle.std.proofs.Common.{◌≡◌, ◌∷◌, ◌++◌, take}
use Rattle.std.specs.Prelude.{string_bytes}
use Rattle.std.specs.List.{flat_map}
use Rattle.msi_database_schema.proofs.description.joined.Given as goal

abbrev pub invariant-loop-other : goal.invariant-loop-other
invariant-loop-other l = record {
  so_far : string_bytes l.text ≡ string_bytes l.initial.text ++ flat_map (λ text. 59 ∷ text) (take l.other-index l.others);
}
