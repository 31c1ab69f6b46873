use Rattle.std.proofs.Common.{◌≡◌, ◌&&◌, rules, of_calls, sym, ap, ◌∙◌, find, pos}
use Rattle.std.proofs.lemmas.List.Sorted.{IsPartitionPoint-from_clause}
use Rattle.std.specs.Ordering.{is_eq, is_lt}
use Rattle.msi_database_schema.specs.RowOrders.{number_in, numbers_cmp}
use Rattle.msi_database_schema.specs.Schema.{has_number, is_about}
use Rattle.msi_base.proofs.ListLemmas.{find_same}
use Rattle.msi_database_schema.proofs.OrderLemmas.{below_parts, found_at, found_first, found_here, missing_here, past_here}
use Rattle.msi_database_schema.proofs.RowOrderLemmas.{at_number, numbers_total}
use Rattle.msi_database_schema.proofs.orders.find_by_number.Goals as goal
use Rattle.msi_database_schema.proofs.orders.find_by_number.Goals.{After-partition_point-at}

-- what is looked for stands where the search ends, if anywhere
found : (c : After-partition_point-at) → find (λ row. is_about c.args.table.now row && has_number c.args.number row) c.args.rows.now
    ≡ found_at (λ row. is_eq (numbers_cmp (number_in row) (c.args.table.now, pos c.args.number))) c.args.rows.now c.partition_point-at.result
found c =
    let rows = c.args.rows.now in
    sym (find_same (λ row. is_eq (numbers_cmp (number_in row) (c.args.table.now, pos c.args.number))) (λ row. is_about c.args.table.now row && has_number c.args.number row) rows (at_number c.args.table.now c.args.number))
    ∙ found_first number_in numbers_cmp numbers_total (c.args.table.now, pos c.args.number) rows c.partition_point-at.result c.requires c.partition_point-at.ensures.bound
    (IsPartitionPoint-from_clause (λ row. is_lt (numbers_cmp (number_in row) (c.args.table.now, pos c.args.number))) rows c.partition_point-at.result c.partition_point-at.ensures.partitioned
    (below_parts number_in numbers_cmp numbers_total (c.args.table.now, pos c.args.number) rows c.requires) (λ a r f k. search (rules, of_calls)))

pub returns-in-None : goal.returns-in-None
returns-in-None c = past_here (λ row. is_eq (numbers_cmp (number_in row) (c.args.table.now, pos c.args.number))) c.args.rows.now c.partition_point-at.result c.in-None.ensures
    ∙ sym (found (goal.at.returns-in-None c).After-partition_point-at)

pub returns-then-is_eq : goal.returns-then-is_eq
returns-then-is_eq c = found_here (λ row. is_eq (numbers_cmp (number_in row) (c.args.table.now, pos c.args.number))) c.args.rows.now c.partition_point-at.result _ c.in-Some.ensures
    (ap is_eq (sym c.numbered_order.ensures) ∙ sym c.is_eq.ensures ∙ c.if-is_eq.true)
    ∙ sym (found (goal.at.returns-then-is_eq c).After-partition_point-at)

pub returns-else-is_eq : goal.returns-else-is_eq
returns-else-is_eq c = missing_here (λ row. is_eq (numbers_cmp (number_in row) (c.args.table.now, pos c.args.number))) c.args.rows.now c.partition_point-at.result _ c.in-Some.ensures
    (ap is_eq (sym c.numbered_order.ensures) ∙ sym c.is_eq.ensures ∙ c.if-is_eq.false)
    ∙ sym (found (goal.at.returns-else-is_eq c).After-partition_point-at)
