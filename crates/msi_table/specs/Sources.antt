-- Where rows come from.
use Rattle.std.specs.Prelude.{List, length}
use Rattle.msi_table_cells.specs.declared.cell.ValueRef.{ValueRef}
use Rattle.msi_table.specs.Rows.{AreRowNumbers, rows_picked}
use Rattle.msi_table.specs.declared.row.Source.{Source}
use Rattle.msi_table.specs.declared.row.Source.TheVariants.{Made, Stored}

-- the rows that were made, or those that are picked of a table
abbrev pub rows_of_source : Source → List (List ValueRef)
rows_of_source (Made rows) = rows.items
rows_of_source (Stored picked) = rows_picked picked.numbers picked.places picked.stored.rows

-- rows are picked by numbers of rows
abbrev pub HasRowNumbers : Source → Type 0
HasRowNumbers (Made rows) = Unit {0}
HasRowNumbers (Stored picked) = AreRowNumbers (length picked.stored.rows) picked.numbers
