-- The kinds of joins.
use Rattle.std.specs.Prelude.{Bool, true, false}
use Rattle.msi_query_expressions.specs.declared.joins.JoinKind.{JoinKind}
use Rattle.msi_query_expressions.specs.declared.joins.JoinKind.TheVariants.{Inner, Left}

-- whether a join keeps a left row without a pair
abbrev pub is_left : JoinKind → Bool
is_left Inner = false
is_left Left = true
