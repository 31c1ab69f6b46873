use Rattle.std.proofs.Common.{◌∙◌, sym, ap}
use Rattle.msi_base.specs.Lists.{has_pair}
use Rattle.msi_table_cells.specs.KeyOrder.{same_key}
use Rattle.msi_database_changes.proofs.row_changes.RowUpdateLemmas.{keys_are, same_under_not}
use Rattle.msi_database_changes.proofs.update.RowUpdate.keys_collide.Goals as goal

pub returns-clause-ok : goal.returns-clause-ok
returns-clause-ok c =
    same_under_not _ _ (sym c.is_none.ensures ∙ c.in_ok-distinct_keys.ensures.distinct)
    ∙ ap (has_pair same_key) (c.in_ok-keys.ensures.ok ∙ keys_are c.args.self.now c.args.pool.now.places c.args.rows.now)
