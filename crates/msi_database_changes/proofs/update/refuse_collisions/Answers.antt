use Rattle.std.proofs.Common.{◌∙◌, sym, ap}
use Rattle.msi_database_changes.specs.RowUpdates.{update_of}
use Rattle.msi_database_changes.specs.Update.{sets_key}
use Rattle.msi_database_changes.proofs.row_changes.RowUpdateLemmas.{collision_refused, no_collision, no_key_set}
use Rattle.msi_database_changes.proofs.update.refuse_collisions.Goals as goal

pub returns-then-not-sets_key-clause-ok : goal.returns-then-not-sets_key-clause-ok
returns-then-not-sets_key-clause-ok c =
    no_key_set c.args.pool.now.places c.args.columns.now c.args.rows.now (update_of c.args.update.now)
    (ap (sets_key c.args.columns.now) (sym c.as_slice.ensures) ∙ sym c.sets_key.ensures ∙ c.if-not-sets_key.true)

pub returns-then-branch-clause-kind : goal.returns-then-branch-clause-kind
returns-then-branch-clause-kind c = rw c.new.ensures
    (collision_refused c.args.pool.now.places c.args.columns.now c.args.rows.now (update_of c.args.update.now)
    (ap (sets_key c.args.columns.now) (sym c.as_slice.ensures) ∙ sym c.sets_key.ensures ∙ c.if-not-sets_key.false)
    (sym c.in_ok-shares_key.ensures.ok ∙ c.if-branch.true))

pub returns-clause-ok : goal.returns-clause-ok
returns-clause-ok c =
    no_collision c.args.pool.now.places c.args.columns.now c.args.rows.now (update_of c.args.update.now)
    (ap (sets_key c.args.columns.now) (sym c.as_slice.ensures) ∙ sym c.sets_key.ensures ∙ c.if-not-sets_key.false)
    (sym c.in_ok-shares_key.ensures.ok ∙ c.if-branch.false)
