use Rattle.std.proofs.Common.{◌≡◌, List, ap, sym, subst, ◌∙◌, map}
use Rattle.std.specs.Prelude.{IfErr, Result}
use Rattle.msi_base.specs.declared.errors.ErrorKind.{ErrorKind}
use Rattle.msi_base.specs.Refusals.{IsRefusal}
use Rattle.msi_table_values.specs.Columns.{ColumnDef}
use Rattle.msi_transform_schema.specs.InHand.{in_hand}
use Rattle.msi_database_schema.specs.Schema.{value_at}
use Rattle.msi_transform_schema.specs.SchemaChanges.{SchemaInHand, counted_on, is_gone}
use Rattle.msi_transform_schema.specs.TablesInHand.{TableInHand, table_with}
use Rattle.msi_transform.specs.Transforms.{value_in}
use Rattle.msi_transform_schema.specs.declared.schema.Standing.{Standing}
use Rattle.msi_transform_schema.proofs.ColumnStepsLemmas.{numbered}
use Rattle.msi_transform_schema.proofs.schema_change.SchemaChange.add_column.Goals as goal

pub returns-clause-kind : goal.returns-clause-kind
returns-clause-kind c = let told = c.in_ok-told.told in let t = c.in_ok-table.table in
    let row = map (value_in c.args.self.now.by) c.args.row.now in
    subst (λ (r : Result SchemaInHand ErrorKind). IfErr c.add_numbered.result (IsRefusal r))
    (sym (numbered c.args.self.now row (in_hand c.args.hand.now) c.args.name.now t (table_with told.standing told.added) told.table.now told.column told.number told.row
    c.in_ok-table.ensures.ok (record {
      there = sym (ap is_gone c.standing.ensures.value) ∙ sym c.is_gone.ensures ∙ c.if-is_gone.false;
      column_is = c.in_ok-told.ensures.column;
      number_is = c.in_ok-told.ensures.number;
      values_are = c.in_ok-told.ensures.row;
      table_is = c.in_ok-told.ensures.table;
      told_is = ap (λ (s : Standing). table_with s told.added) c.in_ok-told.ensures.standing
          ∙ ap (λ (cs : List ColumnDef). table_with (counted_on (value_at 1 row) t.standing) cs) c.in_ok-told.ensures.added;
    })))
    c.add_numbered.ensures.kind
