use Rattle.std.proofs.Common.{◌&&◌, ◌∙◌, [], ap, sym, find, bytes_eq, is_some}
use Rattle.msi_database_schema.specs.RowOrders.{listing}
use Rattle.msi_database_schema.specs.Schema.{is_about, text_at}
use Rattle.msi_database_schema.proofs.FaultLemmas.{copied_some, described_told, none_described}
use Rattle.msi_database_schema.proofs.faults.describes_column.Goals as goal

pub returns-then-is_counted : goal.returns-then-is_counted
returns-then-is_counted c = described_told (listing [] c.args.columns.now) c.args.row.now c.is_some.result (sym c.is_counted.ensures ∙ c.if-is_counted.true)
    (c.is_some.ensures ∙ copied_some c.find_by_texts.result ∙ ap is_some (c.find_by_texts.ensures
    ∙ λ i. find (λ row. is_about (c.text_at.ensures i) row && bytes_eq (text_at 2 row) (c.text_at-then-is_counted.ensures i)) c.args.columns.now))

pub returns-else-is_counted : goal.returns-else-is_counted
returns-else-is_counted c = none_described (listing [] c.args.columns.now) c.args.row.now c.is_counted.result c.is_counted.ensures c.if-is_counted.false
