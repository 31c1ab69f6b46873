use Rattle.std.proofs.Common.{◌≡◌, ◌++◌, List, ap, ◌∙◌, rules, w32}
use Rattle.std.proofs.lemmas.Int.{to_z-of_z}
use Rattle.std.specs.Prelude.{FitsSigned}
use Rattle.msi_table_values.specs.Columns.{ColumnDef}
use Rattle.msi_transform_schema.specs.InHand.{in_hand}
use Rattle.msi_transform_schema.specs.SchemaChanges.{columns_in_hand, columns_of_package}
use Rattle.msi_transform_schema.specs.TablesInHand.{table_with}
use Rattle.msi_transform_schema.proofs.ColumnStepsLemmas.{put_refused}
use Rattle.msi_transform_schema.proofs.schema_change.SchemaChange.put_column.Goals as goal

pub returns-in_err-refuse_new_column-clause-kind : goal.returns-in_err-refuse_new_column-clause-kind
returns-in_err-refuse_new_column-clause-kind c = let told = c.args.told in let d = c.args.self.now.database in
    let t = table_with told.standing told.added in
    let same : c.columns_of-columns.result.now ++ c.as_slice.result.now ≡ columns_in_hand d told.table.now t =
    ap (λ (cs : List ColumnDef). cs ++ c.as_slice.result.now) c.columns_of-columns.ensures.value
    ∙ ap (λ (cs : List ColumnDef). columns_of_package d told.table.now told.standing ++ cs) c.as_slice.ensures in
    let fits : FitsSigned w32 told.number = search rules in
    put_refused tt told.table.now t (columns_in_hand d told.table.now t) (c.columns_of-columns.result.now ++ c.as_slice.result.now) told.column told.number told.row (in_hand c.args.hand.now)
    c.from_residual.result c.in_err-refuse_new_column.field-0.0 same (to_z-of_z w32 told.number fits) c.in_err-refuse_new_column.ensures.value c.from_residual.ensures.1
