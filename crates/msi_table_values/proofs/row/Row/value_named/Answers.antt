use Rattle.std.proofs.Common.{◌≡◌, sym, ap, ◌∙◌, length}
use Rattle.std.specs.Prelude.{is_some}
use Rattle.msi_table_values.specs.Columns.{column_index}
use Rattle.msi_table_values.specs.Row.{RowDef}
use Rattle.msi_table_values.proofs.ColumnLemmas.{column_found, value_inside}
use Rattle.msi_table_values.proofs.row.Row.value_named.Goals as goal

pub returns-in-Some-clause-found : goal.returns-in-Some-clause-found
returns-in-Some-clause-found c =
    let columns : c.as_slice.result.now ≡ c.args.self.now.columns = c.as_slice.ensures ∙ c.deref.ensures ∙ ap (λ (r : RowDef). r.columns) c.self.view_is in
    let wide : length c.as_slice-in-Some.result.now ≡ length c.args.self.now.columns =
    ap length c.as_slice-in-Some.ensures ∙ c.self.invariant ∙ ap (λ (r : RowDef). length r.columns) c.self.view_is in
    c.get.ensures.lookup.0 ∙ value_inside c.args.self.now.columns c.args.name.now (length c.as_slice-in-Some.result.now) c.in-Some.index
    (sym c.in-Some.is ∙ c.column_index.ensures ∙ ap (column_index c.args.name.now) columns) wide

pub returns-in-None-clause-found : goal.returns-in-None-clause-found
returns-in-None-clause-found c =
    let columns : c.as_slice.result.now ≡ c.args.self.now.columns = c.as_slice.ensures ∙ c.deref.ensures ∙ ap (λ (r : RowDef). r.columns) c.self.view_is in
    ap is_some (sym c.in-None.is) ∙ column_found c.args.self.now.columns c.args.name.now c.column_index.result (c.column_index.ensures ∙ ap (column_index c.args.name.now) columns)
