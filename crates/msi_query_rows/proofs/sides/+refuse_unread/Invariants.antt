use Rattle.std.proofs.Common.{length}
use Rattle.msi_query_rows.proofs.sides.+refuse_unread.Given as goal

abbrev pub decreases-refuse_unread : goal.decreases-refuse_unread
decreases-refuse_unread g l = length l.sides.now
