use Rattle.std.proofs.Common.{length}
use Rattle.msi_query_rows.proofs.columns.+mean_columns.Given as goal

abbrev pub decreases-mean_columns : goal.decreases-mean_columns
decreases-mean_columns l = length l.names.now
