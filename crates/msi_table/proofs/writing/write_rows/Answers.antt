use Rattle.std.proofs.Common.{◌∙◌, sym, subst}
use Rattle.msi_table_values.specs.Columns.{types_of}
use Rattle.msi_table_cells.specs.Fitting.{FitsTable}
use Rattle.msi_table_cells.proofs.SortedFitsLemmas.{sorted_fits}
use Rattle.msi_table.proofs.writing.write_rows.Goals as goal

pub write_table-requires : goal.write_table-requires
write_table-requires c = subst (FitsTable c.args.long (types_of c.args.columns.now)) (sym (c.as_slice.ensures.value ∙ c.in_ok-sort_rows.ensures.ok))
    (sorted_fits c.args.columns.now c.args.long (types_of c.args.columns.now) c.args.rows.items c.requires)
