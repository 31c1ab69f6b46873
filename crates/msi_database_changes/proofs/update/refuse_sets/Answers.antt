use Rattle.std.proofs.Common.{◌∙◌, sym, ap}
use Rattle.std.specs.List.{list_all}
use Rattle.msi_database_changes.specs.RowUpdates.{update_of}
use Rattle.msi_database_changes.specs.Update.{set_is_valid}
use Rattle.msi_query.specs.Selection.{condition_names, has_columns}
use Rattle.msi_database_changes.proofs.row_changes.RowUpdateLemmas.{condition_refused, set_refused, sets_accepted}
use Rattle.msi_database_changes.proofs.update.refuse_sets.Goals as goal

pub returns-then-not-are_valid_sets : goal.returns-then-not-are_valid_sets
returns-then-not-are_valid_sets c = rw c.new.ensures
    (set_refused c.args.columns.now (update_of c.args.update.now)
    (ap (list_all (set_is_valid c.args.columns.now)) (sym c.as_slice.ensures) ∙ sym c.are_valid_sets.ensures ∙ c.if-not-are_valid_sets.true))

pub returns-then-not-knows_condition : goal.returns-then-not-knows_condition
returns-then-not-knows_condition c = rw c.new-then-not-knows_condition.ensures
    (condition_refused c.args.columns.now (update_of c.args.update.now)
    (ap (list_all (set_is_valid c.args.columns.now)) (sym c.as_slice.ensures) ∙ sym c.are_valid_sets.ensures ∙ c.if-not-are_valid_sets.false)
    (ap (λ o. has_columns c.args.columns.now (condition_names o)) (sym c.as_ref.ensures.value) ∙ sym c.knows_condition.ensures ∙ c.if-not-knows_condition.true))

pub returns : goal.returns
returns c =
    sets_accepted c.args.columns.now (update_of c.args.update.now)
    (ap (list_all (set_is_valid c.args.columns.now)) (sym c.as_slice.ensures) ∙ sym c.are_valid_sets.ensures ∙ c.if-not-are_valid_sets.false)
    (ap (λ o. has_columns c.args.columns.now (condition_names o)) (sym c.as_ref.ensures.value) ∙ sym c.knows_condition.ensures ∙ c.if-not-knows_condition.false)
