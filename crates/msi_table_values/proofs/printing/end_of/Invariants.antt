use Rattle.std.proofs.Common.{◌≡◌, ◌++◌, take, drop}
use Rattle.std.specs.Fmt.{take_chars}
use Rattle.msi_table_values.proofs.printing.end_of.Given as goal

abbrev pub invariant-loop-at : goal.invariant-loop-at
invariant-loop-at l = take l.at l.text ++ take_chars l.left (drop l.at l.text) ≡ take_chars l.count l.text
