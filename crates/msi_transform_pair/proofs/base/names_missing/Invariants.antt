use Rattle.std.proofs.Common.{◌≡◌, ◌++◌, drop, not}
use Rattle.std.specs.Prelude.{filter}
use Rattle.msi_database_changes.specs.Database.{has_table}
use Rattle.msi_transform_pair.specs.Names.{names_in}
use Rattle.msi_transform_pair.proofs.base.names_missing.Given as goal

abbrev pub invariant-loop-name : goal.invariant-loop-name
invariant-loop-name l = record {
  whole : names_in l.names.items ++ filter (λ name. not (has_table name l.other.kept.database)) (names_in (drop l.name-index l.all))
      ≡ filter (λ name. not (has_table name l.other.kept.database)) (names_in l.all);
}
