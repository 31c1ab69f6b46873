use Rattle.std.proofs.Common.{◌∙◌, List, Option, ap, option_and_then, subst, sym}
use Rattle.msi_base.specs.Results.{Gives}
use Rattle.msi_table_values.specs.declared.value.Value.{Value}
use Rattle.msi_database_schema.specs.RowOrders.{describing}
use Rattle.msi_database_schema.specs.Schema.{column_of_row}
use Rattle.msi_database_schema.proofs.ReadColumnLemmas.{fails_plainly, short_row}
use Rattle.msi_database_schema.proofs.TablesLemmas.{numbered_plain}
use Rattle.msi_database_schema.proofs.columns.numbered_column.Goals as goal

pub column_of_row-requires-clause-short : goal.column_of_row-requires-clause-short
column_of_row-requires-clause-short c = short_row _ c.args.columns.now c.in-Some.row.now c.requires.short c.in-Some.ensures

pub returns-in-Some : goal.returns-in-Some
returns-in-Some c =
    let s = describing c.args.columns.now c.args.validation.now in
    subst (λ (o : Option (List Value)). Gives (λ column. column) c.column_of_row.result (option_and_then (column_of_row s c.args.table.now) o))
    (c.in-Some.ensures ∙ sym (numbered_plain s c.args.table.now c.args.number c.requires.plain)) c.column_of_row.ensures

pub returns-in-None : goal.returns-in-None
returns-in-None c =
    let s = describing c.args.columns.now c.args.validation.now in
    fails_plainly c.misnumbered.result _ c.misnumbered.ensures
    (ap (option_and_then (column_of_row s c.args.table.now)) (numbered_plain s c.args.table.now c.args.number c.requires.plain ∙ sym c.in-None.ensures))
