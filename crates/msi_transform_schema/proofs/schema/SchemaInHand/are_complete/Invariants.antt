use Rattle.std.proofs.Common.{◌≡◌}
use Rattle.std.specs.FinMap.{entries}
use Rattle.std.specs.List.{list_all}
use Rattle.msi_transform_schema.specs.SchemaChanges.{is_complete}
use Rattle.msi_transform_schema.specs.TablesInHand.{named}
use Rattle.msi_transform_schema.proofs.schema.SchemaInHand.are_complete.Given as goal

-- whether the tables to come are complete is whether all are
abbrev pub invariant-loop-table : goal.invariant-loop-table
invariant-loop-table l = list_all (λ e. is_complete e.1) (named l.table-iterator) ≡ list_all (λ e. is_complete e.1) (entries l.self.tables)
