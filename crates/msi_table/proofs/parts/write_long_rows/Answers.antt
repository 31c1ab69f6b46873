use Rattle.msi_table_values.specs.Columns.{types_of}
use Rattle.std.proofs.Common.{subst, sym}
use Rattle.msi_table_values.specs.Columns.{ColumnDef}
use Rattle.msi_table_cells.specs.Fitting.{FitsTable}
use Rattle.std.proofs.Common.{List, true}
use Rattle.msi_table.proofs.LongRowsLemmas.{fits_long}
use Rattle.msi_table.proofs.parts.write_long_rows.Goals as goal

pub write_table-requires : goal.write_table-requires
write_table-requires c = subst (λ (cs : List ColumnDef). FitsTable true (types_of cs) c.args.rows.now) (sym c.columns.ensures.columns)
    (fits_long c.args.table.now.long (types_of c.args.table.now.columns) c.args.rows.now c.requires)
