use Rattle.msi_table_cells.proofs.StableSortLemmas.{only_stable_sort}
use Rattle.msi_query.specs.Selection.{order_cmp}
use Rattle.msi_query_rows.proofs.OrderLemmas.{order_cmp-weak}
use Rattle.msi_query_rows.proofs.laws.rows_are_ordered.Goals as goal

pub returns : goal.returns
returns c = λ columns names rows sorted. only_stable_sort (order_cmp columns names) (order_cmp-weak columns names) rows sorted
