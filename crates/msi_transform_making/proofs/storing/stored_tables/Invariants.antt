use Rattle.std.proofs.Common.{◌≡◌, drop}
use Rattle.msi_database_changes.specs.Texts.{in_turn, in_use}
use Rattle.msi_database_changes.proofs.steps.InTurnLemmas.{from_here}
use Rattle.msi_transform_making.specs.Making.{stored_table}
use Rattle.msi_transform_making.proofs.storing.stored_tables.Given as goal

abbrev pub invariant-loop-table : goal.invariant-loop-table
invariant-loop-table l = record {
  far : from_here stored_table l.stored.items (in_use l.pool) (drop l.table-index l.tables) ≡ in_turn stored_table (in_use l.fn.pool) l.tables;
  page : l.pool.pool.page ≡ l.fn.pool.pool.page;
  long : l.pool.pool.long ≡ l.fn.pool.pool.long;
}
