use Rattle.std.proofs.Common.{◌∙◌, Some, ap, arith, sym}
use Rattle.std.specs.Prelude.{option_map}
use Rattle.std.proofs.lemmas.Result.{err_from_is_err_and}
use Rattle.msi_database_schema.specs.ListedTables.{listed_table, with_system}
use Rattle.msi_database_schema.specs.RowOrders.{describing}
use Rattle.msi_database_schema.proofs.ListingLemmas.{all_read, read_more, read_skips, table_ungiven, unread}
use Rattle.msi_database_schema.proofs.ReadColumnLemmas.{fails_on}
use Rattle.msi_database_schema.proofs.schema.listed_tables.Goals as goal
use Rattle.msi_database_schema.proofs.schema.listed_tables.Goals.{else-is_counted, then-is_counted+in_ok-listed_table+in_ok-push}

pub returns-in_err-listed_table : goal.returns-in_err-listed_table
returns-in_err-listed_table c =
    let s = describing c.args.columns.now c.args.validation.now in
    let p = err_from_is_err_and c.from_residual-in_err-listed_table.result c.from_residual-in_err-listed_table.ensures.1 in
    rw (p.1, p.2) (fails_on _ (listed_table c.args.long s c.text_at-name.result.now) (option_map (with_system c.args.long) (all_read c.args.long c.args.columns.now c.args.validation.now c.args.tables.now))
    (λ n. table_ungiven (all_read c.args.long c.args.columns.now c.args.validation.now c.args.tables.now) (with_system c.args.long)
    (unread c.args.long c.args.columns.now c.args.validation.now c.args.tables.now c.loop-row.row-index c.row-item.result (omega arith) c.row-item.is (sym c.is_counted.ensures ∙ c.if-is_counted.true)
    (ap (listed_table c.args.long s) (sym c.text_at-name.ensures) ∙ n))) c.in_err-listed_table.ensures)

pub loop-row-preserved : goal.loop-row-preserved
loop-row-preserved c =
    elim c.if-is_counted.branch [
      | then-is_counted+in_ok-listed_table+in_ok-push w ↦ record {
        read = read_more c.args.long c.args.columns.now c.args.validation.now c.args.tables.now c.loop-row.row-index c.row-item.result c.loop-row.read.items c.if-is_counted.read.items w.in_ok-listed_table.field-0
            (omega arith) c.row-item.is (sym c.is_counted.ensures ∙ w.if-is_counted.true) c.loop-row.invariant.read
            (ap (listed_table c.args.long (describing c.args.columns.now c.args.validation.now)) (sym w.text_at-name.ensures) ∙ w.in_ok-listed_table.ensures)
            ((λ i. (w.read-is i).items) ∙ w.in_ok-push.ensures.items);
      }
      | else-is_counted w ↦ record {
        read = read_skips c.args.long c.args.columns.now c.args.validation.now c.args.tables.now c.loop-row.row-index c.row-item.result c.loop-row.read.items
            (omega arith) c.row-item.is (sym c.is_counted.ensures ∙ w.if-is_counted.false) c.loop-row.invariant.read ∙ sym (λ i. Some (w.read-is i).items);
      }
    ]
