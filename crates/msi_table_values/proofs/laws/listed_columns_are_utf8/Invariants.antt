use Rattle.std.proofs.Common.{take}
use Rattle.msi_table_values.specs.Utf8Texts.{AreUtf8Columns}
use Rattle.msi_table_values.proofs.laws.listed_columns_are_utf8.Given as goal

abbrev pub invariant-loop-column : goal.invariant-loop-column
invariant-loop-column l = AreUtf8Columns (take l.column-index l.columns)
