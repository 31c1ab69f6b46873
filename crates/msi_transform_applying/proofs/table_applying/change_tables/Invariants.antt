use Rattle.std.proofs.Common.{◌≡◌, ◌+◌, length}
use Rattle.std.specs.FinMap.{entries}
use Rattle.msi_transform.specs.RecordsByTable.{by_text}
use Rattle.msi_transform_applying.specs.AnewInHand.{anew_in_hand}
use Rattle.msi_transform_applying.specs.Applying.{tables_in_turn}
use Rattle.msi_transform_applying.proofs.table_applying.change_tables.Given as goal

-- what the tables to come leave is what all leave
abbrev pub invariant-loop-name : goal.invariant-loop-name
invariant-loop-name l = record {
  far : tables_in_turn l.change (entries l.told) l.number (anew_in_hand l.changed) (by_text l.name-iterator)
      ≡ tables_in_turn l.change (entries l.told) 0 (anew_in_hand l.fn.hand) l.change.by.tables;
  count : l.number + length l.name-iterator ≡ length l.change.by.tables;
  page : l.changed.pool.pool.page ≡ l.fn.hand.pool.pool.page;
  long : l.changed.pool.pool.long ≡ l.fn.hand.pool.pool.long;
}
