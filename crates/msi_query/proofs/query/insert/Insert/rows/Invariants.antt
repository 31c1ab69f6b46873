use Rattle.std.proofs.Common.{◌≡◌, ◌++◌, map}
use Rattle.msi_query.proofs.query.insert.Insert.rows.Given as goal

abbrev pub invariant-loop-values : goal.invariant-loop-values
invariant-loop-values l = l.all.items ≡ l.initial.all.items ++ map (λ row. row.items) l.yielded
