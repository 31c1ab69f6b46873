use Rattle.std.proofs.Common.{◌≡◌, length}
use Rattle.std.specs.Prelude.{filter}
use Rattle.msi_query_expressions.specs.Meaning.{is_called, only}
use Rattle.msi_query_expressions.proofs.meaning.only_called.Given as goal

abbrev pub invariant-loop-columns : goal.invariant-loop-columns
invariant-loop-columns l = only (filter (is_called l.table l.name) l.columns) ≡ only (filter (is_called l.table l.name) l.initial.columns)

abbrev pub decreases-loop-columns : goal.decreases-loop-columns
decreases-loop-columns l = length l.columns
