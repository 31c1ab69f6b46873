use Rattle.std.proofs.Common.{◌≡◌, ◌∙◌, Some, ap, arith, length, sym}
use Rattle.std.proofs.lemmas.Result.{err_from_is_err_and}
use Rattle.msi_database_schema.specs.RowOrders.{describing}
use Rattle.msi_database_schema.specs.Schema.{column_rows, columns_of}
use Rattle.msi_database_schema.proofs.ReadColumnLemmas.{fails_on, fails_plainly}
use Rattle.msi_database_schema.proofs.TablesLemmas.{columns_made, columns_unmade, no_columns, numbered, rows_plain, tabulated_absent, tabulated_present, too_many}
use Rattle.msi_database_schema.proofs.columns.columns_of_table.Goals as goal
use Rattle.msi_database_schema.proofs.columns.columns_of_table.Goals.{After-count_about-count}

-- how many rows are about the table
many : (c : After-count_about-count) → c.count_about-count.result ≡ length (column_rows (describing c.args.columns.now c.args.validation.now) c.args.table.now)
many c = c.count_about-count.ensures ∙ sym (ap length (rows_plain (describing c.args.columns.now c.args.validation.now) c.args.table.now c.requires.plain))

pub returns-then-count-eq0-clause-gives : goal.returns-then-count-eq0-clause-gives
returns-then-count-eq0-clause-gives c =
    let e = many (goal.at.returns-then-count-eq0-clause-gives c).After-count_about-count in
    fails_plainly c.misnumbered.result _ c.misnumbered.ensures (no_columns (describing c.args.columns.now c.args.validation.now) c.args.table.now (omega (arith, e, c.if-count-eq0.true)))

pub returns-then-count-gt-MAX_COLUMNS-clause-gives : goal.returns-then-count-gt-MAX_COLUMNS-clause-gives
returns-then-count-gt-MAX_COLUMNS-clause-gives c =
    let e = many (goal.at.returns-then-count-gt-MAX_COLUMNS-clause-gives c).After-count_about-count in
    fails_plainly c.misnumbered-then-count-gt-MAX_COLUMNS.result _ c.misnumbered-then-count-gt-MAX_COLUMNS.ensures
    (too_many (describing c.args.columns.now c.args.validation.now) c.args.table.now c.requires.short c.requires.plain (omega (arith, e, c.if-count-gt-MAX_COLUMNS.true)))

pub returns-in_err-numbered_column-clause-gives : goal.returns-in_err-numbered_column-clause-gives
returns-in_err-numbered_column-clause-gives c =
    let s = describing c.args.columns.now c.args.validation.now in
    let e = many (goal.at.returns-in_err-numbered_column-clause-gives c).After-count_about-count in
    let p = err_from_is_err_and c.from_residual.result c.from_residual.ensures.1 in
    rw (p.1, p.2) (fails_on _ (numbered s c.args.table.now c.loop-i.i) (columns_of s c.args.table.now)
    (λ n. columns_unmade s c.args.table.now (tabulated_absent (numbered s c.args.table.now) (length (column_rows s c.args.table.now)) c.loop-i.i (omega (arith, e, c.loop-i-test.true)) n)) c.in_err-numbered_column.ensures)

pub loop-i-preserved : goal.loop-i-preserved
loop-i-preserved c = record {
  read = tabulated_present (numbered (describing c.args.columns.now c.args.validation.now) c.args.table.now) c.loop-i.i c.loop-i.read.items c.push.new.self.items c.in_ok-numbered_column.field-0
      c.loop-i.invariant.read c.in_ok-numbered_column.ensures c.in_ok-push.ensures.items;
  many = omega (arith, c.in_ok-push.ensures.len, c.loop-i.invariant.many);
}

pub returns-clause-gives : goal.returns-clause-gives
returns-clause-gives c =
    let e = many (goal.at.returns-clause-gives c).After-count_about-count in
    let i : c.loop-i.i ≡ c.count_about-count.result = omega arith in
    columns_made (describing c.args.columns.now c.args.validation.now) c.args.table.now c.loop-i.i c.from_vec.result (sym (i ∙ e)) (omega arith) (c.loop-i.invariant.read ∙ ap Some (sym c.from_vec.ensures))
