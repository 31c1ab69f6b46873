use Rattle.std.proofs.Common.{◌∙◌}
use Rattle.msi_database_changes.proofs.row_changes.NamedRowLemmas.{named_row_fits}
use Rattle.msi_database_changes.proofs.naming.named_row_fits.Goals as goal

pub returns : goal.returns
returns c = c.take_values.ensures ∙ named_row_fits c.args.columns.now c.args.names.now c.args.row.now
