use Rattle.std.proofs.Common.{take}
use Rattle.msi_table_values.specs.Utf8Texts.{AreUtf8Texts}
use Rattle.msi_table_values.proofs.laws.listed_texts_are_utf8.Given as goal

abbrev pub invariant-loop-text : goal.invariant-loop-text
invariant-loop-text l = AreUtf8Texts (take l.text-index l.texts)
