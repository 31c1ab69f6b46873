use Rattle.std.proofs.Common.{◌≡◌, ◌++◌, map, take}
use Rattle.msi_query.specs.Selection.{nullable_if, prefixed}
use Rattle.msi_query_rows.proofs.columns.add_columns.Given as goal

abbrev pub invariant-loop-column : goal.invariant-loop-column
invariant-loop-column l = record {
  joined : l.joined.items
      ≡ l.initial.joined.items ++ map (λ c. nullable_if l.nulls (prefixed l.side c)) (take l.column-index l.columns);
}
