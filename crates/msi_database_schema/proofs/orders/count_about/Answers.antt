use Rattle.std.proofs.Common.{◌≡◌, ◌+◌, ◌∙◌, rules, of_calls, sym, arith, length, filter}
use Rattle.std.proofs.lemmas.List.Sorted.{IsPartitionPoint-from_clause}
use Rattle.std.specs.Ordering.{is_eq, is_le, is_lt}
use Rattle.std.proofs.lemmas.List.Elements.{filter_agree}
use Rattle.msi_base.specs.Lists.{list_cmp}
use Rattle.msi_database_schema.specs.Schema.{is_about, text_at}
use Rattle.msi_database_schema.proofs.OrderLemmas.{below_parts, passed_before, up_parts, up_to_bound}
use Rattle.msi_database_schema.proofs.RowOrderLemmas.{about_is, names_total, tables_ascend}
use Rattle.msi_database_schema.proofs.orders.count_about.Goals as goal
use Rattle.msi_database_schema.proofs.orders.count_about.Goals.{After-partition_point-end}

-- how many rows are about tables below this one, and how many up to it
before : (c : After-partition_point-end) → length (filter (λ row. is_lt (list_cmp (text_at 0 row) c.args.table.now)) c.args.rows.now) ≡ c.partition_point-start.result
before c =
    let rows = c.args.rows.now in
    let point = IsPartitionPoint-from_clause (λ row. is_lt (list_cmp (text_at 0 row) c.args.table.now)) rows c.partition_point-start.result c.partition_point-start.ensures.partitioned
    (below_parts (text_at 0) list_cmp names_total c.args.table.now rows (tables_ascend rows c.requires)) (λ a r f k. search (rules, of_calls)) in
    passed_before (λ row. is_lt (list_cmp (text_at 0 row) c.args.table.now)) rows c.partition_point-start.result c.partition_point-start.ensures.bound point.0 point.1

up_to : (c : After-partition_point-end) → length (filter (λ row. is_le (list_cmp (text_at 0 row) c.args.table.now)) c.args.rows.now) ≡ c.partition_point-end.result
up_to c =
    let rows = c.args.rows.now in
    let point = IsPartitionPoint-from_clause (λ row. is_le (list_cmp (text_at 0 row) c.args.table.now)) rows c.partition_point-end.result c.partition_point-end.ensures.partitioned
    (up_parts (text_at 0) list_cmp names_total c.args.table.now rows (tables_ascend rows c.requires)) (λ a r f k. search (rules, of_calls)) in
    passed_before (λ row. is_le (list_cmp (text_at 0 row) c.args.table.now)) rows c.partition_point-end.result c.partition_point-end.ensures.bound point.0 point.1

-- the rows between are those about it
between : (c : After-partition_point-end) → c.partition_point-end.result ≡ c.partition_point-start.result + length (filter (is_about c.args.table.now) c.args.rows.now)
between c =
    let rows = c.args.rows.now in
    sym (up_to c) ∙ up_to_bound (λ row. list_cmp (text_at 0 row) c.args.table.now) rows
    ∙ λ i. before c i + length (filter_agree (λ row. is_eq (list_cmp (text_at 0 row) c.args.table.now)) (is_about c.args.table.now) (about_is c.args.table.now) rows i)

pub overflow_sub-result : goal.overflow_sub-result
overflow_sub-result c = let e = between (goal.at.overflow_sub-result c).After-partition_point-end in omega (arith, e)

pub returns : goal.returns
returns c = let e = between (goal.at.returns c).After-partition_point-end in omega (arith, e)
