use Rattle.std.proofs.Common.{◌≡◌, map, take}
use Rattle.msi_query_expressions.specs.Meaning.{meant}
use Rattle.msi_query.proofs.query.clauses.meant_names.Given as goal

abbrev pub invariant-loop-name : goal.invariant-loop-name
invariant-loop-name l = record {
  copies : l.copies.items ≡ map (meant l.scope.table.now l.scope.columns.now) (take l.name-index l.names);
}
