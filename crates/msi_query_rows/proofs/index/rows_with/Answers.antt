use Rattle.std.proofs.Common.{List, rules}
use Rattle.std.proofs.lemmas.List.Sorted.{IsPartitionPoint-from_clause}
use Rattle.std.specs.Ordering.{is_le, is_lt}
use Rattle.std.proofs.lemmas.List.{take_rest}
use Rattle.msi_table_values.specs.declared.value.Value.{Value}
use Rattle.msi_table_cells.specs.declared.cell.ValueRef.{ValueRef}
use Rattle.msi_table_cells.specs.CellValues.{value_of_cell}
use Rattle.msi_table_values.specs.OrderLaws.{value_cmp-total}
use Rattle.msi_table_values.specs.Values.{value_cmp}
use Rattle.msi_query_rows.specs.Index.{value_there}
use Rattle.msi_query_rows.proofs.FoundLemmas.{found, parted_above, parted_below}
use Rattle.msi_query_rows.proofs.index.rows_with.Goals as goal

pub returns : goal.returns
returns c = λ before e.
    let places = c.args.pool.now.places in
    let value : List ValueRef → Value = value_there places c.args.place in
    let rows = c.args.rows.now in
    let v = value_of_cell places c.args.cell in
    let tail = take_rest rows c.partition_point-start.result in
    found value_cmp-total value rows before _ v c.partition_point-start.result c.partition_point-end.result e tail c.partition_point-end.ensures.bound
    (IsPartitionPoint-from_clause (λ row. is_lt (value_cmp (value row) v)) _ _ c.partition_point-start.ensures.partitioned (parted_below value_cmp-total value rows before v e) (λ a r q k. search rules))
    (IsPartitionPoint-from_clause (λ row. is_le (value_cmp (value row) v)) _ _ c.partition_point-end.ensures.partitioned (parted_above value_cmp-total value rows before _ v c.partition_point-start.result e tail) (λ a r q k. search rules))
