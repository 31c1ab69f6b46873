use Rattle.std.proofs.Common.{ℕ, List, take}
use Rattle.std.specs.List.{AllByRecursion}
use Rattle.std.specs.Str.{IsUtf8}
use Rattle.msi_table.specs.Value.{Value}
use Rattle.msi_table.specs.Utf8Texts.{IsUtf8Value}
use Rattle.msi_query.proofs.query.texts.look_at_sets.Given as goal

abbrev pub invariant-loop-set : goal.invariant-loop-set
invariant-loop-set l = AllByRecursion (λ (set : List ℕ × Value). IsUtf8 set.0 × IsUtf8Value set.1) (take l.set-index l.sets)
