use Rattle.std.proofs.Common.{◌≡◌, ◌∙◌, List, is_some, subst}
use Rattle.msi_base.specs.Lists.{tabulated}
use Rattle.msi_table_values.specs.Columns.{ColumnDef, types_of}
use Rattle.msi_table.specs.Cells.{row_count, row_in, rows_in}
use Rattle.msi_table.specs.Census.{CountsMore, numbers_of_rows}
use Rattle.msi_table.specs.Tables.{rows_spelled}
use Rattle.msi_table.proofs.CensusLemmas.{stored_counted, unread_counted}
use Rattle.msi_table.proofs.census.Census.count_stored.Goals as goal

pub returns-then-not-are_rows-clause-counted : goal.returns-then-not-are_rows-clause-counted
returns-then-not-are_rows-clause-counted c =
    let readable : c.are_rows.result ≡ is_some (rows_spelled c.args.table.now c.args.bytes.now) =
    c.are_rows.ensures ∙ (λ i. is_some (rows_in (c.is_long-long.ensures i) (types_of (c.columns-columns.ensures.columns i)) c.args.bytes.now)) in
    unread_counted (rows_spelled c.args.table.now c.args.bytes.now) c.are_rows.result c.args.self.now readable c.if-not-are_rows.true

pub returns-clause-counted : goal.returns-clause-counted
returns-clause-counted c =
    let readable : c.are_rows.result ≡ is_some (rows_spelled c.args.table.now c.args.bytes.now) =
    c.are_rows.ensures ∙ (λ i. is_some (rows_in (c.is_long-long.ensures i) (types_of (c.columns-columns.ensures.columns i)) c.args.bytes.now)) in
    let many : c.row_count.result ≡ row_count c.args.table.now.long (types_of c.args.table.now.columns) c.args.bytes.now =
    c.row_count.ensures ∙ (λ i. row_count (c.is_long-long.ensures i) (types_of (c.columns-columns.ensures.columns i)) c.args.bytes.now) in
    stored_counted c.args.table.now.long (types_of c.args.table.now.columns) c.args.bytes.now c.row_count.result c.are_rows.result c.args.self.now c.count_columns.new.self many readable c.if-not-are_rows.false
    (subst (λ long. CountsMore (numbers_of_rows (tabulated c.row_count.result (row_in long (types_of c.args.table.now.columns) c.args.bytes.now))) c.args.self.now c.count_columns.new.self) c.is_long-long.ensures
    (subst (λ (columns : List ColumnDef). CountsMore (numbers_of_rows (tabulated c.row_count.result (row_in c.is_long-long.result (types_of columns) c.args.bytes.now))) c.args.self.now c.count_columns.new.self) c.columns-columns.ensures.columns
    c.count_columns.ensures))
