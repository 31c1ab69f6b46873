use Rattle.std.proofs.Common.{take}
use Rattle.std.specs.List.{AllByRecursion}
use Rattle.msi_table.specs.Utf8Texts.{AreUtf8Values}
use Rattle.msi_query.proofs.query.texts.look_at_rows.Given as goal

abbrev pub invariant-loop-row : goal.invariant-loop-row
invariant-loop-row l = AllByRecursion AreUtf8Values (take l.row-index l.rows)
