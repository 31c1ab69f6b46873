use Rattle.std.proofs.Common.{◌≡◌, ◌∷◌, ◌++◌, take}
use Rattle.std.specs.Prelude.{string_bytes}
use Rattle.std.specs.List.{flat_map}
use Rattle.std.specs.Fmt.{decimal}
use Rattle.msi_categories.proofs.spellings.language_list.Given as goal

abbrev pub invariant-loop-language : goal.invariant-loop-language
invariant-loop-language l = string_bytes l.text ≡ string_bytes l.initial.text ++ flat_map (λ id. 44 ∷ decimal id) (take l.language-index l.rest)
