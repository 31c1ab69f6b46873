use Rattle.std.proofs.Common.{ap, ◌∙◌}
use Rattle.msi_database_schema.specs.Keys.{table_key}
use Rattle.msi_database.proofs.LongRowsLemmas.{put_long}
use Rattle.msi_database.proofs.widening.store_long.Goals as goal

pub returns-clause-ok : goal.returns-clause-ok
returns-clause-ok c =
    put_long c.args.streams.now c.insert.new.self c.args.table.now.name c.args.table.now.columns c.args.rows.now c.short_table_key.result c.from_vec.result c.is_empty.result c.is_empty.ensures c.if-is_empty.false
    c.in_ok-insert.ensures.ok (c.short_table_key.ensures ∙ ap table_key c.name.ensures) (c.from_vec.ensures ∙ c.in_ok-bytes.ensures.ok)
