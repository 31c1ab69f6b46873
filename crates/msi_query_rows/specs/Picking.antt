-- Which rows and columns of a table a query picks.
use Rattle.std.specs.Prelude.{ℕ, Bool, not, List, map, length, Option, Some, None, ◌==◌, ◌&&◌, if◌then◌else◌}
use Rattle.std.specs.List.{filter_map}
use Rattle.msi_table_values.specs.Columns.{ColumnDef, column_index}
use Rattle.msi_query.specs.Queries.{Clauses}
use Rattle.msi_query.specs.Rows.{column_at}

-- whether the rows that are picked stay in their order, and none is left out for another
abbrev pub keep_order : Clauses → Bool
keep_order c = (length c.order == 0) && not c.is_distinct

-- where the columns of the names stand; no names pick all
abbrev pub places_picked : List (List ℕ) → List ColumnDef → Option (List (Option ℕ))
places_picked names columns = if length names == 0 then None else Some (map (λ name. column_index name columns) names)

-- the columns at the places, or all
abbrev pub columns_picked : Option (List (Option ℕ)) → List ColumnDef → List ColumnDef
columns_picked None columns = columns
columns_picked (Some places) columns = filter_map (column_at columns) places
