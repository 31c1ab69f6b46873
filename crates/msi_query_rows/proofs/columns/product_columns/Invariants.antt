use Rattle.std.proofs.Common.{◌≡◌, List, map, take}
use Rattle.msi_pool.specs.Pool.{Place}
use Rattle.msi_query.specs.Rows.{relation_values}
use Rattle.msi_query.specs.Selection.{product_columns}
use Rattle.msi_query_rows.proofs.columns.product_columns.Given as goal

abbrev pub invariant-loop-relation : goal.invariant-loop-relation
invariant-loop-relation l = record {
  columns : (places : List Place) → l.columns.items ≡ product_columns (map (relation_values places) (take l.relation-index l.relations));
}
