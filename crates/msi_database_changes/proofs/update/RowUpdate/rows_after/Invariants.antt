use Rattle.std.proofs.Common.{◌≡◌, length, true}
use Rattle.std.specs.Vec.Iter.{into_iter_items, into_iter_len}
use Rattle.msi_database_changes.specs.Texts.{in_turn, in_use}
use Rattle.msi_database_changes.specs.Update.{row_updated}
use Rattle.msi_database_changes.proofs.steps.InTurnLemmas.{from_here}
use Rattle.msi_database_changes.proofs.update.RowUpdate.rows_after.Given as goal

abbrev pub invariant-loop-row : goal.invariant-loop-row
invariant-loop-row l =
    let step = row_updated true l.old.places l.self.columns l.self.query in
    record {
      far : from_here step l.cells.items (in_use l.pool) (into_iter_items l.row-iterator)
          ≡ in_turn step (in_use l.initial.pool) (into_iter_items l.initial.row-iterator);
      left : into_iter_len l.row-iterator ≡ length (into_iter_items l.row-iterator);
      page : l.pool.pool.page ≡ l.initial.pool.pool.page;
      long : l.pool.pool.long ≡ l.initial.pool.pool.long;
    }
