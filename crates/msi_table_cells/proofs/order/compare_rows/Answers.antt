use Rattle.std.proofs.Common.{rules, ◌≡◌, ◌∙◌, sym, ap}
use Rattle.std.specs.Prelude.{not}
use Rattle.std.specs.Option.{option_cmp}
use Rattle.std.specs.List.{slice_get}
use Rattle.msi_table_cells.specs.CellOrder.{cell_cmp}
use Rattle.msi_table_cells.proofs.RowOrderLemmas.{skipped, decided_here, decided_later, orders_rows}
use Rattle.msi_table_cells.proofs.order.compare_rows.Goals as goal

pub loop-i-preserved-then-is_of_category_binary : goal.loop-i-preserved-then-is_of_category_binary
loop-i-preserved-then-is_of_category_binary c = record {
  same = c.loop-i.invariant.same ∙ skipped cell_cmp orders_rows c.args.columns.now c.args.row.now c.args.other.now c.loop-i.i c.index-columns-i.result c.loop-i-test.true
      (ap orders_rows (sym c.index-columns-i.is) ∙ ap not (sym c.is_of_category_binary.ensures ∙ c.if-is_of_category_binary.true));
}

pub returns-then-ne : goal.returns-then-ne
returns-then-ne c =
    let e : c.cmp-order.result ≡ option_cmp cell_cmp (slice_get c.args.row.now c.loop-i.i) (slice_get c.args.other.now c.loop-i.i) = search rules in
    sym (c.loop-i.invariant.same ∙ decided_here cell_cmp orders_rows c.args.columns.now c.args.row.now c.args.other.now c.loop-i.i c.index-columns-i.result c.loop-i-test.true
    (ap orders_rows (sym c.index-columns-i.is) ∙ ap not (sym c.is_of_category_binary.ensures ∙ c.if-is_of_category_binary.false)) c.cmp-order.result e (sym c.ne.ensures ∙ c.if-ne.true))

pub loop-i-preserved : goal.loop-i-preserved
loop-i-preserved c =
    let e : c.cmp-order.result ≡ option_cmp cell_cmp (slice_get c.args.row.now c.loop-i.i) (slice_get c.args.other.now c.loop-i.i) = search rules in
    record {
      same = c.loop-i.invariant.same ∙ decided_later cell_cmp orders_rows c.args.columns.now c.args.row.now c.args.other.now c.loop-i.i c.index-columns-i.result c.loop-i-test.true
          (ap orders_rows (sym c.index-columns-i.is) ∙ ap not (sym c.is_of_category_binary.ensures ∙ c.if-is_of_category_binary.false)) c.cmp-order.result e (sym c.ne.ensures ∙ c.if-ne.false);
    }
