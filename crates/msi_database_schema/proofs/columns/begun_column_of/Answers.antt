use Rattle.std.proofs.Common.{◌≡◌, ◌∙◌, [], ℕ, List, Option, ap, subst, IfOk}
use Rattle.msi_table_values.specs.declared.value.Value.{Value}
use Rattle.msi_table_values.specs.Columns.{begun_column}
use Rattle.msi_database_schema.specs.RowOrders.{describing}
use Rattle.msi_database_schema.specs.Schema.{described, validation_row}
use Rattle.msi_database_schema.proofs.columns.begun_column_of.Goals as goal

pub returns-in-Some-clause-ok : goal.returns-in-Some-clause-ok
returns-in-Some-clause-ok c = subst (λ (about : Option (List Value)). IfOk c.described_column.result (λ builder. builder ≡ described about (begun_column c.args.name)))
    (c.in-Some.ensures ∙ ap (λ (name : List ℕ). validation_row (describing [] c.args.validation.now) c.args.table.now name) c.as_str.ensures) c.described_column.ensures.ok

pub returns-in-None-clause-ok : goal.returns-in-None-clause-ok
returns-in-None-clause-ok c = subst (λ (about : Option (List Value)). IfOk c.build.result (λ builder. builder ≡ described about (begun_column c.args.name)))
    (c.in-None.ensures ∙ ap (λ (name : List ℕ). validation_row (describing [] c.args.validation.now) c.args.table.now name) c.as_str.ensures) c.build.ensures.ok
