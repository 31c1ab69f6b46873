use Rattle.std.proofs.Common.{◌≡◌, ◌++◌, ◌∙◌, List, OnOk, ap, subst, sym}
use Rattle.msi_database_changes.specs.declared.storing.Stored.{Stored}
use Rattle.msi_table_values.specs.Columns.{ColumnDef}
use Rattle.msi_transform_schema.specs.SchemaChanges.{columns_of_package, rows_of_package}
use Rattle.msi_transform_applying.specs.Applying.{gains_streams}
use Rattle.msi_transform_applying.proofs.LengtheningLemmas.{gone_begun}
use Rattle.msi_transform_applying.proofs.lengthening.begin_streams.Goals as goal

pub returns-clause-ok : goal.returns-clause-ok
returns-clause-ok c = let d = c.args.change.now.database in let t = c.args.table.now in let name = c.args.name.now in
    let columns_are = c.columns_of-columns.ensures.value ∙ ap (columns_of_package d name) c.standing.ensures.value in
    let rows_are = c.as_slice.ensures.value ∙ c.in_ok-rows.ensures.ok ∙ ap (rows_of_package d name) c.standing-2.ensures.value in
    let gains = sym (ap (λ (cols : List ColumnDef). gains_streams cols t.added) columns_are)
    ∙ sym (ap (gains_streams c.columns_of-columns.result.now) c.added.ensures.value)
    ∙ sym c.gains_streams.ensures ∙ c.if-not-gains_streams.false in
    subst (λ (gone : List Stored). OnOk c.push_gone_streams.result (c.push_gone_streams.new.streams.items ≡ c.args.streams.now.items ++ gone))
    (gone_begun d name t c.columns_of-columns.result.now c.as_slice.result.now columns_are rows_are gains)
    c.push_gone_streams.ensures.ok
