use Rattle.std.proofs.Common.{◌≡◌, ◌++◌, drop, not}
use Rattle.std.specs.Prelude.{filter}
use Rattle.msi_database_schema.specs.System.{is_schema_table}
use Rattle.msi_transform_pair.specs.Names.{names_in}
use Rattle.msi_transform_pair.proofs.base.names_of_rows.Given as goal

abbrev pub invariant-loop-name : goal.invariant-loop-name
invariant-loop-name l = record {
  whole : names_in l.names.items ++ filter (λ name. not (is_schema_table name)) (names_in (drop l.name-index l.all))
      ≡ filter (λ name. not (is_schema_table name)) (names_in l.all);
}
