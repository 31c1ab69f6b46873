use Rattle.std.proofs.Common.{◌≡◌, ◌∙◌, ap, subst, Some, IfOk}
use Rattle.std.specs.FinMap.{entries}
use Rattle.msi_table.specs.Tables.{TableDef}
use Rattle.msi_database_schema.specs.Schema.{table_with}
use Rattle.msi_database_storage.specs.Streams.{stored_rows}
use Rattle.msi_database_storage.proofs.reading.described_rows.Goals as goal

pub returns-clause-ok : goal.returns-clause-ok
returns-clause-ok c = let raw = c.args.pool.now in
    let made : c.in_ok-table.table ≡ table_with raw.long (c.args.name.now, c.args.columns) =
    c.in_ok-table.ensures.ok ∙ ap (λ long. table_with long (c.args.name.now, c.args.columns)) c.long_string_refs.ensures in
    subst (λ (t : TableDef). IfOk c.stored_rows.result (λ rows. stored_rows (entries c.args.streams.now) t.long t.columns t.name ≡ Some rows.items)) made c.stored_rows.ensures.ok
