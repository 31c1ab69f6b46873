use Rattle.std.proofs.Common.{rules, ◌≡◌, ◌∙◌, sym, ap}
use Rattle.std.specs.Prelude.{option_map}
use Rattle.std.specs.Option.{option_cmp}
use Rattle.std.specs.List.{slice_get}
use Rattle.msi_table_cells.specs.CellValues.{value_of_cell, row_values}
use Rattle.msi_table_values.specs.Values.{value_cmp}
use Rattle.msi_table_cells.proofs.RowOrderLemmas.{skipped, decided_here, decided_later, is_key, values_at}
use Rattle.msi_table_cells.proofs.order.compare_keys.Goals as goal

pub loop-i-preserved-then-not-is_primary_key : goal.loop-i-preserved-then-not-is_primary_key
loop-i-preserved-then-not-is_primary_key c =
    let places = c.args.pool.now.places in
    record {
      same = c.loop-i.invariant.same ∙ skipped value_cmp is_key c.args.columns.now (row_values places c.args.row.now) (row_values places c.args.other.now) c.loop-i.i c.index-columns-i.result c.loop-i-test.true
          (ap is_key (sym c.index-columns-i.is) ∙ sym c.is_primary_key.ensures ∙ c.if-not-is_primary_key.true);
    }

pub returns-then-ne : goal.returns-then-ne
returns-then-ne c =
    let places = c.args.pool.now.places in
    let e : c.compare_if_present-order.result ≡ option_cmp value_cmp (option_map (value_of_cell places) (slice_get c.args.row.now c.loop-i.i)) (option_map (value_of_cell places) (slice_get c.args.other.now c.loop-i.i)) = search rules in
    sym (c.loop-i.invariant.same ∙ decided_here value_cmp is_key c.args.columns.now (row_values places c.args.row.now) (row_values places c.args.other.now) c.loop-i.i c.index-columns-i.result c.loop-i-test.true
    (ap is_key (sym c.index-columns-i.is) ∙ sym c.is_primary_key.ensures ∙ c.if-not-is_primary_key.false)
    c.compare_if_present-order.result (values_at places c.args.row.now c.args.other.now c.loop-i.i c.compare_if_present-order.result e) (sym c.ne.ensures ∙ c.if-ne.true))

pub loop-i-preserved : goal.loop-i-preserved
loop-i-preserved c =
    let places = c.args.pool.now.places in
    let e : c.compare_if_present-order.result ≡ option_cmp value_cmp (option_map (value_of_cell places) (slice_get c.args.row.now c.loop-i.i)) (option_map (value_of_cell places) (slice_get c.args.other.now c.loop-i.i)) = search rules in
    record {
      same = c.loop-i.invariant.same ∙ decided_later value_cmp is_key c.args.columns.now (row_values places c.args.row.now) (row_values places c.args.other.now) c.loop-i.i c.index-columns-i.result c.loop-i-test.true
          (ap is_key (sym c.index-columns-i.is) ∙ sym c.is_primary_key.ensures ∙ c.if-not-is_primary_key.false)
          c.compare_if_present-order.result (values_at places c.args.row.now c.args.other.now c.loop-i.i c.compare_if_present-order.result e) (sym c.ne.ensures ∙ c.if-ne.false);
    }
