use Rattle.std.proofs.Common.{length}
use Rattle.msi_query_rows.proofs.sides.+repeat_name.Given as goal

abbrev pub decreases-repeat_name : goal.decreases-repeat_name
decreases-repeat_name l = length l.sides.now
