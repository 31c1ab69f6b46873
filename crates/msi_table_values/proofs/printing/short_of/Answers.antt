use Rattle.std.proofs.Common.{sym, ◌∙◌, arith}
use Rattle.std.proofs.Padding.{char_count-drop, char_count-drop_all}
use Rattle.msi_table_values.proofs.printing.short_of.Goals as goal
use Rattle.msi_table_values.proofs.printing.short_of.Goals.{then-is_first, else-is_first}

pub loop-byte-preserved : goal.loop-byte-preserved
loop-byte-preserved c =
    let count = char_count-drop c.args.text.now c.loop-byte.byte-index c.loop-byte-test.true in
    let test = sym c.is_first.ensures in
    elim c.if-is_first.branch [
      | then-is_first w ↦ let one = rw (test ∙ w.if-is_first.true) at count in omega (arith, w.saturating_sub-short.ensures)
      | else-is_first w ↦ let none = rw (test ∙ w.if-is_first.false) at count in omega arith
    ]

pub returns : goal.returns
returns c = omega (arith, char_count-drop_all c.args.text.now c.loop-byte.byte-index c.loop-byte-test.false)
