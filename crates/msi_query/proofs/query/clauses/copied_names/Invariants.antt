use Rattle.std.proofs.Common.{◌≡◌, take}
use Rattle.msi_query.proofs.query.clauses.copied_names.Given as goal

abbrev pub invariant-loop-name : goal.invariant-loop-name
invariant-loop-name l = record {
  copies : l.copies.items ≡ take l.name-index l.names;
}
