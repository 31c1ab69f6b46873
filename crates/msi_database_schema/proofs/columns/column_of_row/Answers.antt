use Rattle.std.proofs.Common.{◌∙◌, [], ℕ, List, Option, ap, subst, option_map}
use Rattle.msi_base.specs.Results.{Gives}
use Rattle.msi_table_values.specs.Columns.{ColumnDef, begun_column, column_of_bits}
use Rattle.msi_database_schema.specs.RowOrders.{describing}
use Rattle.msi_database_schema.specs.Schema.{bits_in, described, validation_row}
use Rattle.msi_database_schema.proofs.ReadColumnLemmas.{bits_give, described_bits}
use Rattle.msi_database_schema.proofs.columns.column_of_row.Goals as goal

pub returns : goal.returns
returns c =
    let s = describing [] c.args.validation.now in
    let row = c.args.row.now in
    subst (λ (o : Option ColumnDef). Gives (λ column. column) c.column_of_bits.result o)
    ((λ i. column_of_bits (c.in_ok-builder.ensures.ok i) (c.bits_in.ensures i))
    ∙ described_bits (validation_row s c.args.table.now c.in_ok-name.name) c.in_ok-name.name (bits_in row)
    ∙ ap (λ (name : List ℕ). option_map (described (validation_row s c.args.table.now name)) (column_of_bits (begun_column name) (bits_in row))) c.in_ok-name.ensures.ok)
    (bits_give c.column_of_bits.result _ c.column_of_bits.ensures.ok c.column_of_bits.ensures.refused c.column_of_bits.ensures.kind)
