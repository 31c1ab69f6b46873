use Rattle.std.proofs.Common.{◌≡◌, ◌++◌, ◌∷◌, bytes_eq, length}
use Rattle.msi_query_expressions.proofs.meaning.is_joined.Given as goal

abbrev pub invariant-loop-table : goal.invariant-loop-table
invariant-loop-table l = bytes_eq l.name (l.table ++ 46 ∷ l.column) ≡ bytes_eq l.initial.name (l.initial.table ++ 46 ∷ l.column)

abbrev pub decreases-loop-table : goal.decreases-loop-table
decreases-loop-table l = length l.table
