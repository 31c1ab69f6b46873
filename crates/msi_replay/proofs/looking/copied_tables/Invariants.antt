use Rattle.std.proofs.Common.{◌≡◌, take}
use Rattle.msi_replay.proofs.looking.copied_tables.Given as goal

abbrev pub invariant-loop-table : goal.invariant-loop-table
invariant-loop-table l = record {
  copies : l.copies.items ≡ take l.table-index l.tables;
}
