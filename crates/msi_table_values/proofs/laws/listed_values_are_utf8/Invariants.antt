use Rattle.std.proofs.Common.{take}
use Rattle.msi_table_values.specs.Utf8Texts.{AreUtf8Values}
use Rattle.msi_table_values.proofs.laws.listed_values_are_utf8.Given as goal

abbrev pub invariant-loop-value : goal.invariant-loop-value
invariant-loop-value l = AreUtf8Values (take l.value-index l.values)
