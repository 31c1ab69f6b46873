use Rattle.std.proofs.Common.{take}
use Rattle.std.specs.List.{AllByRecursion}
use Rattle.msi_query.specs.Utf8Queries.{IsUtf8Side}
use Rattle.msi_query.proofs.query.texts.look_at_sides.Given as goal

abbrev pub invariant-loop-side : goal.invariant-loop-side
invariant-loop-side l = AllByRecursion IsUtf8Side (take l.side-index l.sides)
