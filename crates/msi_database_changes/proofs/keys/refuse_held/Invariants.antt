use Rattle.std.proofs.Common.{◌≡◌, List, map, take}
use Rattle.msi_table_values.specs.declared.value.Value.{Value}
use Rattle.msi_table_cells.specs.KeyOrder.{key_of}
use Rattle.msi_database_changes.specs.KeySets.{HasKeys}
use Rattle.msi_database_changes.proofs.row_keys.KeySetLemmas.{refusal_from}
use Rattle.msi_database_changes.proofs.keys.refuse_held.Given as goal

abbrev pub invariant-loop-row : goal.invariant-loop-row
invariant-loop-row l = record {
  known : HasKeys l.earlier (take l.row-index (map (key_of l.columns) l.new_rows));
  passed : (keys : List (List Value)) → HasKeys l.held keys
      → refusal_from keys (map (key_of l.columns) l.new_rows) 0 ≡ refusal_from keys (map (key_of l.columns) l.new_rows) l.row-index;
}
