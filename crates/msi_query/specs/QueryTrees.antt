-- What the tree of a `Select` stands for.
use Rattle.msi_query.specs.declared.query.select.SelectTree.{SelectTree, Table, Join', Product}
use Rattle.msi_query.specs.Queries.{Query, table, join, product}

abbrev pub query_of : SelectTree → Query
query_of (Table name clauses) = table name clauses
query_of (Join' kind p l q r on clauses) = join kind (query_of l) (query_of r) on clauses
query_of (Product sides clauses) = product sides clauses
