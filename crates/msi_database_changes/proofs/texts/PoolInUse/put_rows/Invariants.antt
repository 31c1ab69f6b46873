use Rattle.std.proofs.Common.{◌≡◌, length, true}
use Rattle.std.specs.Vec.Iter.{into_iter_items, into_iter_len}
use Rattle.msi_database_changes.specs.Texts.{cell_put, in_turn, in_use}
use Rattle.msi_database_changes.proofs.steps.InTurnLemmas.{from_here}
use Rattle.msi_database_changes.proofs.texts.PoolInUse.put_rows.Given as goal

abbrev pub invariant-loop-row : goal.invariant-loop-row
invariant-loop-row l = record {
  far : from_here (in_turn (cell_put true)) l.cells.items (in_use l.self) (into_iter_items l.row-iterator)
      ≡ in_turn (in_turn (cell_put true)) (in_use l.initial.self) (into_iter_items l.initial.row-iterator);
  left : into_iter_len l.row-iterator ≡ length (into_iter_items l.row-iterator);
  page : l.self.pool.page ≡ l.initial.self.pool.page;
  long : l.self.pool.long ≡ l.initial.self.pool.long;
}
