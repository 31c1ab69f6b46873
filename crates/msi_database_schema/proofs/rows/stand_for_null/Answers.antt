use Rattle.std.proofs.Common.{◌∙◌, sym}
use Rattle.msi_database_schema.proofs.SeenRowLemmas.{nulls_of_cells}
use Rattle.msi_database_schema.proofs.rows.stand_for_null.Goals as goal

pub returns : goal.returns
returns c = c.has_null_cell.ensures ∙ sym (nulls_of_cells c.args.pool.now.places c.args.cells.now)
