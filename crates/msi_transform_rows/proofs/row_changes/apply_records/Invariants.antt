use Rattle.std.proofs.Common.{◌≡◌, drop}
use Rattle.msi_transform_rows.specs.RecordRefusals.{in_turn_from}
use Rattle.msi_transform_rows.specs.RowChanges.{record_applied}
use Rattle.msi_transform_rows.specs.RowsInHand.{hand}
use Rattle.msi_transform_rows.proofs.row_changes.apply_records.Given as goal

abbrev pub invariant-loop-record_number : goal.invariant-loop-record_number
invariant-loop-record_number l = record {
  far : in_turn_from l.table (record_applied l.change) 0 (hand l.initial.rows) l.records
      ≡ in_turn_from l.table (record_applied l.change) l.record_number (hand l.rows) (drop l.record_number l.records);
  page : l.rows.pool.pool.page ≡ l.initial.rows.pool.pool.page;
  long : l.rows.pool.pool.long ≡ l.initial.rows.pool.pool.long;
}
