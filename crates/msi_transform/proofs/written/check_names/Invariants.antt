use Rattle.std.proofs.Common.{◌≡◌, not}
use Rattle.std.specs.FinMap.{entries}
use Rattle.std.specs.List.{list_any}
use Rattle.msi_database_schema.specs.Keys.{is_table_name}
use Rattle.msi_transform.specs.RecordsByTable.{by_text}
use Rattle.msi_transform.proofs.written.check_names.Given as goal

-- no name was refused so far
abbrev pub invariant-loop-name : goal.invariant-loop-name
invariant-loop-name l =
    list_any (λ e. not (is_table_name e.0)) (entries l.tables) ≡ list_any (λ e. not (is_table_name e.0)) (by_text l.name-iterator)
