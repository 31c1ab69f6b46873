use Rattle.std.proofs.Common.{◌≡◌, ◌∙◌, List, ap, arith, not, rules, sym}
use Rattle.std.specs.Prelude.{is_some}
use Rattle.std.specs.Vec.Iter.{into_iter_items}
use Rattle.msi_base.specs.Lists.{has_pair}
use Rattle.msi_table_cells.specs.KeyOrder.{key_of, same_key}
use Rattle.msi_table_cells.specs.CellValues.{row_values}
use Rattle.msi_database_changes.specs.KeySets.{keys_of_rows}
use Rattle.msi_transform_rows.specs.RowChanges.{Rows, cells_in_hand, row_at, with_row_at}
use Rattle.msi_transform_rows.specs.declared.row.RowInHand.{RowInHand}
use Rattle.msi_transform_rows.proofs.KeyedRowsLemmas.{is_some-copied, row_pushed, row_shares, rows_stay_apart, yielded_more}
use Rattle.msi_transform_rows.proofs.keyed.keyed_rows.Goals as goal

pub returns-then-is_some-clause-distinct : goal.returns-then-is_some-clause-distinct
returns-then-is_some-clause-distinct c =
    let columns = c.args.columns.now in
    let places = c.args.pool.now.places in
    let yielded = c.loop-row.yielded in
    let left = into_iter_items c.next.new.self in
    let key_is = c.in_ok-key.ensures.ok ∙ ap (λ cells. key_of columns (row_values places cells)) c.as_slice.ensures in
    let there = ap (λ (rows : Rows). is_some (row_at c.in_ok-key.key rows)) (sym c.loop-row.invariant.rows)
    ∙ ap is_some (sym c.get.ensures) ∙ is_some-copied c.get.result ∙ sym c.is_some.ensures ∙ c.if-is_some.true in
    let given : c.args.rows.items ≡ into_iter_items c.into_iter-row-iterator.result = search rules in
    let all = given ∙ yielded_more (into_iter_items c.into_iter-row-iterator.result) yielded (into_iter_items c.loop-row.row-iterator) left c.in-Some.row c.loop-row.invariant.whole c.in-Some.ensures.steps.0 in
    sym (ap (λ (rows : List RowInHand). not (has_pair same_key (keys_of_rows places columns (cells_in_hand rows)))) all
    ∙ ap not (row_shares columns places yielded c.in-Some.row c.in_ok-key.key key_is left there))

pub loop-row-preserved : goal.loop-row-preserved
loop-row-preserved c =
    let columns = c.args.columns.now in
    let places = c.args.pool.now.places in
    let yielded = c.loop-row.yielded in
    let left = into_iter_items c.next.new.self in
    let key_is = c.in_ok-key.ensures.ok ∙ ap (λ cells. key_of columns (row_values places cells)) c.as_slice.ensures in
    let missing = ap (λ (rows : Rows). is_some (row_at c.in_ok-key.key rows)) (sym c.loop-row.invariant.rows)
    ∙ ap is_some (sym c.get.ensures) ∙ is_some-copied c.get.result ∙ sym c.is_some.ensures ∙ c.if-is_some.false in
    record {
      rows = c.in_ok-insert.ensures.ok ∙ ap (with_row_at c.in_ok-key.key c.in-Some.row) c.loop-row.invariant.rows
          ∙ row_pushed columns places yielded c.in-Some.row c.in_ok-key.key key_is missing;
      distinct = rows_stay_apart columns places yielded c.in-Some.row c.in_ok-key.key key_is missing c.loop-row.invariant.distinct;
      whole = yielded_more (into_iter_items c.into_iter-row-iterator.result) yielded (into_iter_items c.loop-row.row-iterator) left c.in-Some.row c.loop-row.invariant.whole c.in-Some.ensures.steps.0;
      left = omega arith;
    }
