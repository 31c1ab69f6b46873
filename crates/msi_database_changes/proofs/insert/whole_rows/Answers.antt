use Rattle.std.proofs.Common.{◌∙◌, ◌≡◌, ap, sym, map}
use Rattle.std.proofs.lemmas.Result.{IfOk-weaker}
use Rattle.msi_database_changes.specs.Insert.{whole_row}
use Rattle.msi_database_changes.proofs.row_changes.NamedRowLemmas.{whole_named, whole_unnamed}
use Rattle.msi_database_changes.proofs.insert.whole_rows.Goals as goal

pub returns-then-is_empty-clause-ok : goal.returns-then-is_empty-clause-ok
returns-then-is_empty-clause-ok c = IfOk-weaker c.values_of.result (λ values. values.items ≡ c.args.rows.items) _
    (λ values is. is ∙ whole_unnamed c.args.columns.now c.args.names.now c.args.rows.items (sym c.is_empty.ensures ∙ c.if-is_empty.true)) c.values_of.ensures.ok

pub returns-else-is_empty-clause-ok : goal.returns-else-is_empty-clause-ok
returns-else-is_empty-clause-ok c = IfOk-weaker c.named_rows.result (λ values. values.items ≡ map (whole_row c.args.columns.now c.args.names.now) c.as_slice.result.now) _
    (λ values is. is ∙ ap (map (whole_row c.args.columns.now c.args.names.now)) c.as_slice.ensures.value ∙ whole_named c.args.columns.now c.args.names.now c.args.rows.items (sym c.is_empty.ensures ∙ c.if-is_empty.false)) c.named_rows.ensures.ok
