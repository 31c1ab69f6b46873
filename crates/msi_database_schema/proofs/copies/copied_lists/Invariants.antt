use Rattle.std.proofs.Common.{◌≡◌, map, take}
use Rattle.msi_database_schema.specs.Copies.{list_copy}
use Rattle.msi_database_schema.proofs.copies.copied_lists.Given as goal

abbrev pub invariant-loop-reference : goal.invariant-loop-reference
invariant-loop-reference l = record {
  copies : l.copies.items ≡ map (list_copy l.pool.places) (take l.reference-index l.references);
}
