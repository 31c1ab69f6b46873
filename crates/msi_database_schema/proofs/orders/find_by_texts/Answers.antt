use Rattle.std.proofs.Common.{◌≡◌, ◌&&◌, rules, of_calls, sym, ap, ◌∙◌, find, bytes_eq}
use Rattle.std.proofs.lemmas.List.Sorted.{IsPartitionPoint-from_clause}
use Rattle.std.specs.Ordering.{is_eq, is_lt}
use Rattle.msi_database_schema.specs.RowOrders.{texts_at, texts_cmp}
use Rattle.msi_database_schema.specs.Schema.{is_about, text_at}
use Rattle.msi_base.proofs.ListLemmas.{find_same}
use Rattle.msi_database_schema.proofs.OrderLemmas.{below_parts, found_at, found_first, found_here, missing_here, past_here}
use Rattle.msi_database_schema.proofs.RowOrderLemmas.{at_texts, texts_total}
use Rattle.msi_database_schema.proofs.orders.find_by_texts.Goals as goal
use Rattle.msi_database_schema.proofs.orders.find_by_texts.Goals.{After-partition_point-at}

-- what is looked for stands where the search ends, if anywhere
found : (c : After-partition_point-at) → find (λ row. is_about c.args.table.now row && bytes_eq (text_at c.args.place row) c.args.text.now) c.args.rows.now
    ≡ found_at (λ row. is_eq (texts_cmp (texts_at c.args.place row) (c.args.table.now, c.args.text.now))) c.args.rows.now c.partition_point-at.result
found c =
    let rows = c.args.rows.now in
    sym (find_same (λ row. is_eq (texts_cmp (texts_at c.args.place row) (c.args.table.now, c.args.text.now))) (λ row. is_about c.args.table.now row && bytes_eq (text_at c.args.place row) c.args.text.now) rows (at_texts c.args.place c.args.table.now c.args.text.now))
    ∙ found_first (texts_at c.args.place) texts_cmp texts_total (c.args.table.now, c.args.text.now) rows c.partition_point-at.result c.requires c.partition_point-at.ensures.bound
    (IsPartitionPoint-from_clause (λ row. is_lt (texts_cmp (texts_at c.args.place row) (c.args.table.now, c.args.text.now))) rows c.partition_point-at.result c.partition_point-at.ensures.partitioned
    (below_parts (texts_at c.args.place) texts_cmp texts_total (c.args.table.now, c.args.text.now) rows c.requires) (λ a r f k. search (rules, of_calls)))

pub returns-in-None : goal.returns-in-None
returns-in-None c = past_here (λ row. is_eq (texts_cmp (texts_at c.args.place row) (c.args.table.now, c.args.text.now))) c.args.rows.now c.partition_point-at.result c.in-None.ensures
    ∙ sym (found (goal.at.returns-in-None c).After-partition_point-at)

pub returns-then-is_eq : goal.returns-then-is_eq
returns-then-is_eq c = found_here (λ row. is_eq (texts_cmp (texts_at c.args.place row) (c.args.table.now, c.args.text.now))) c.args.rows.now c.partition_point-at.result _ c.in-Some.ensures
    (ap is_eq (sym c.texts_order.ensures) ∙ sym c.is_eq.ensures ∙ c.if-is_eq.true)
    ∙ sym (found (goal.at.returns-then-is_eq c).After-partition_point-at)

pub returns-else-is_eq : goal.returns-else-is_eq
returns-else-is_eq c = missing_here (λ row. is_eq (texts_cmp (texts_at c.args.place row) (c.args.table.now, c.args.text.now))) c.args.rows.now c.partition_point-at.result _ c.in-Some.ensures
    (ap is_eq (sym c.texts_order.ensures) ∙ sym c.is_eq.ensures ∙ c.if-is_eq.false)
    ∙ sym (found (goal.at.returns-else-is_eq c).After-partition_point-at)
