use Rattle.std.proofs.Common.{◌≡◌, drop}
use Rattle.msi_transform_schema.specs.InHand.{in_hand}
use Rattle.msi_transform_rows.specs.RecordRefusals.{in_turn_from}
use Rattle.msi_transform_schema.specs.SchemaChanges.{column_record_applied}
use Rattle.msi_transform_schema.proofs.schema_change.SchemaChange.apply_all_to_columns.Given as goal

-- the records to come do what all do
abbrev pub invariant-loop-record_number : goal.invariant-loop-record_number
invariant-loop-record_number l = record {
  applied : in_turn_from l.table (column_record_applied l.self l.shapes) l.record_number (in_hand l.hand) (drop l.record_number l.records)
      ≡ in_turn_from l.table (column_record_applied l.self l.shapes) 0 (in_hand l.fn.hand) l.records;
  page : l.hand.pool.pool.page ≡ l.fn.hand.pool.pool.page;
  long : l.hand.pool.pool.long ≡ l.fn.hand.pool.pool.long;
}
