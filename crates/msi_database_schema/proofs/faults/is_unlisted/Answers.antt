use Rattle.std.proofs.Common.{◌&&◌, ◌∙◌, [], List, ℕ, ap, sym, find, bytes_eq, is_none}
use Rattle.msi_database_schema.specs.RowOrders.{listing}
use Rattle.msi_database_schema.specs.Schema.{is_about, text_at}
use Rattle.msi_database_schema.proofs.FaultLemmas.{copied_none, none_from, unlisted_told}
use Rattle.msi_database_schema.proofs.faults.is_unlisted.Goals as goal

pub returns-then-is_counted : goal.returns-then-is_counted
returns-then-is_counted c = unlisted_told (listing c.args.tables.now []) (text_at 0 c.args.row.now) c.is_none.result (sym c.is_counted.ensures ∙ c.if-is_counted.true)
    (none_from c.is_none.result c.find_by_texts.result (sym c.is_none.ensures) ∙ copied_none c.find_by_texts.result ∙ ap is_none (c.find_by_texts.ensures
    ∙ ap (λ (table : List ℕ). find (λ row. is_about table row && bytes_eq (text_at 0 row) table) c.args.tables.now) c.text_at-table.ensures))
