use Rattle.std.proofs.Common.{◌≡◌, ◌-◌, drop}
use Rattle.std.specs.Fmt.{char_count}
use Rattle.msi_table_values.proofs.printing.short_of.Given as goal

abbrev pub invariant-loop-byte : goal.invariant-loop-byte
invariant-loop-byte l = l.short - char_count (drop l.byte-index l.text) ≡ l.count - char_count l.text
