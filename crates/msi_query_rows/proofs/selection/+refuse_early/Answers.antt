use Rattle.std.proofs.Common.{refl, sym, ◌∙◌}
use Rattle.msi_query.specs.QueryTrees.{query_of}
use Rattle.msi_query.specs.Rows.{columns_read}
use Rattle.msi_query_rows.proofs.EarlyLemmas.{clauses_decide, join_behind, left_decides, names_decide, product_unread, right_decides, table_lacks}
use Rattle.msi_query_rows.proofs.selection.+refuse_early.Goals as goal

pub returns-in_err-columns-in-Table : goal.returns-in_err-columns-in-Table
returns-in_err-columns-in-Table g t c =
    table_lacks (columns_read (g.T.Tables.table c.args.tables.now)) (query_of c.args.tree.now) c.as_str-table.result.now c.in-Table.clauses _ c.from_residual.result
    (rw (c.in-Table.is, c.as_str-table.ensures) refl) c.in_err-columns-in-Table.ensures.kind c.from_residual.ensures.1

pub returns-in_ok-columns-in-Table : goal.returns-in_ok-columns-in-Table
returns-in_ok-columns-in-Table g t c =
    clauses_decide (columns_read (g.T.Tables.table c.args.tables.now)) (query_of c.args.tree.now) c.as_str-table.result.now c.in-Table.clauses c.in_ok-columns-in-Table.columns.now
    c.refuse_meaningless.result (rw (c.in-Table.is, c.as_str-table.ensures) refl) c.in_ok-columns-in-Table.ensures.ok c.refuse_meaningless.ensures

pub returns-in_err-refuse_early-in-Join : goal.returns-in_err-refuse_early-in-Join
returns-in_err-refuse_early-in-Join g t c = let j = c.in-Join in
    left_decides (columns_read (g.T.Tables.table c.args.tables.now)) (query_of c.args.tree.now) j.kind (query_of c.deref.result.now) (query_of j.right.value) j.on j.clauses _
    c.refuse_early.result c.from_residual-in_err-refuse_early-in-Join.result (rw (j.is, c.deref.ensures) refl) c.refuse_early.ensures c.in_err-refuse_early-in-Join.was
    c.from_residual-in_err-refuse_early-in-Join.ensures.1

pub returns-then-not-is_table : goal.returns-then-not-is_table
returns-then-not-is_table g t c = let j = c.in-Join in
    join_behind (columns_read (g.T.Tables.table c.args.tables.now)) (query_of c.args.tree.now) j.kind (query_of c.deref.result.now) (query_of j.right.value) j.on j.clauses c.refuse_early.result _
    (rw (j.is, c.deref.ensures) refl) c.refuse_early.ensures c.in_ok-refuse_early-in-Join.was (rw (c.deref.ensures ∙ sym c.deref-in-Join.ensures) (sym c.is_table.ensures ∙ c.if-not-is_table.true)) refl

pub returns-else-not-is_table : goal.returns-else-not-is_table
returns-else-not-is_table g t c = let j = c.in-Join in
    right_decides (columns_read (g.T.Tables.table c.args.tables.now)) (query_of c.args.tree.now) j.kind (query_of c.deref.result.now) (query_of c.deref-in-Join-2.result.now) j.on j.clauses
    c.refuse_early.result c.refuse_early-in-Join.result
    (rw (j.is, c.deref.ensures, c.deref-in-Join-2.ensures) refl) c.refuse_early.ensures c.in_ok-refuse_early-in-Join.was (rw (c.deref.ensures ∙ sym c.deref-in-Join.ensures) (sym c.is_table.ensures ∙ c.if-not-is_table.false))
    c.refuse_early-in-Join.ensures

pub returns-in_err-refuse_unread-in-Product : goal.returns-in_err-refuse_unread-in-Product
returns-in_err-refuse_unread-in-Product g t c =
    product_unread (columns_read (g.T.Tables.table c.args.tables.now)) (query_of c.args.tree.now) c.as_slice.result.now c.in-Product.clauses _ c.refuse_unread.result
    c.from_residual-in_err-refuse_unread-in-Product.result (rw (c.in-Product.is, c.as_slice.ensures) refl) c.refuse_unread.ensures c.in_err-refuse_unread-in-Product.was
    c.from_residual-in_err-refuse_unread-in-Product.ensures.1

pub returns-in_ok-refuse_unread-in-Product : goal.returns-in_ok-refuse_unread-in-Product
returns-in_ok-refuse_unread-in-Product g t c =
    names_decide (columns_read (g.T.Tables.table c.args.tables.now)) (query_of c.args.tree.now) c.as_slice.result.now c.in-Product.clauses c.refuse_unread.result c.refuse_repeated.result
    (rw (c.in-Product.is, c.as_slice.ensures) refl) c.refuse_unread.ensures c.in_ok-refuse_unread-in-Product.was (rw (c.as_slice.ensures, ← c.as_slice-in-Product.ensures) c.refuse_repeated.ensures)
