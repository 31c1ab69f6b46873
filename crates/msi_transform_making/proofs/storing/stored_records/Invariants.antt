use Rattle.std.proofs.Common.{◌≡◌, drop}
use Rattle.msi_database_changes.specs.Texts.{in_turn, in_use}
use Rattle.msi_database_changes.proofs.steps.InTurnLemmas.{from_here}
use Rattle.msi_transform_making.specs.Making.{stored_record}
use Rattle.msi_transform_making.proofs.storing.stored_records.Given as goal

abbrev pub invariant-loop-record : goal.invariant-loop-record
invariant-loop-record l = record {
  far : from_here stored_record l.records.items (in_use l.pool) (drop l.record-index l.told) ≡ in_turn stored_record (in_use l.fn.pool) l.told;
  page : l.pool.pool.page ≡ l.fn.pool.pool.page;
  long : l.pool.pool.long ≡ l.fn.pool.pool.long;
}
