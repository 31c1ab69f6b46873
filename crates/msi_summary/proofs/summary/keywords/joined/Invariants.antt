use Rattle.std.proofs.Common.{◌≡◌, ◌++◌, take}
use Rattle.std.specs.Prelude.{codes, string_bytes}
use Rattle.std.specs.List.{flat_map}
use Rattle.msi_summary.proofs.summary.keywords.joined.Given as goal

abbrev pub invariant-loop-word : goal.invariant-loop-word
invariant-loop-word l = record {
  so_far : string_bytes l.text ≡ string_bytes l.initial.text ++ flat_map (λ word. codes "; " ++ string_bytes word) (take l.word-index l.others);
}
