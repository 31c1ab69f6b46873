use Rattle.std.proofs.Common.{◌≡◌, length, true}
use Rattle.std.specs.Vec.Iter.{into_iter_items, into_iter_len}
use Rattle.msi_database_changes.specs.Texts.{cell_put, in_turn, in_use}
use Rattle.msi_database_changes.proofs.steps.InTurnLemmas.{from_here}
use Rattle.msi_database_changes.proofs.texts.PoolInUse.put_row.Given as goal

abbrev pub invariant-loop-value : goal.invariant-loop-value
invariant-loop-value l = record {
  far : from_here (cell_put true) l.cells.items (in_use l.self) (into_iter_items l.value-iterator)
      ≡ in_turn (cell_put true) (in_use l.initial.self) (into_iter_items l.initial.value-iterator);
  left : into_iter_len l.value-iterator ≡ length (into_iter_items l.value-iterator);
  page : l.self.pool.page ≡ l.initial.self.pool.page;
  long : l.self.pool.long ≡ l.initial.self.pool.long;
}
