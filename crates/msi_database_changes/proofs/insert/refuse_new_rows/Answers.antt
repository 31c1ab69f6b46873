use Rattle.std.proofs.Common.{◌∙◌, ap, sym}
use Rattle.msi_base.specs.Refusals.{Refusals, unless_refused}
use Rattle.msi_database_changes.proofs.row_changes.NamedRowLemmas.{refused_named, refused_unnamed}
use Rattle.msi_database_changes.proofs.insert.refuse_new_rows.Goals as goal

pub returns-then-is_empty : goal.returns-then-is_empty
returns-then-is_empty c = c.refuse_new_misfits.ensures
    ∙ ap (λ (rs : Refusals). unless_refused rs tt) (sym (refused_unnamed c.args.columns.now c.args.names.now c.args.rows.now (sym c.is_empty.ensures ∙ c.if-is_empty.true)))

pub returns-else-is_empty : goal.returns-else-is_empty
returns-else-is_empty c = c.refuse_named_rows.ensures
    ∙ ap (λ (rs : Refusals). unless_refused rs tt) (sym (refused_named c.args.columns.now c.args.names.now c.args.rows.now (sym c.is_empty.ensures ∙ c.if-is_empty.false)))
