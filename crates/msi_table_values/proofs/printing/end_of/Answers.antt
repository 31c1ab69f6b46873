use Rattle.std.proofs.Common.{true, false, sym, ap, ◌∙◌, ◌++◌, append-nil, arith, take, drop}
use Rattle.std.proofs.Math.ListN.{drop_of_length-le}
use Rattle.std.proofs.Math.Seq.{take-length, take_all}
use Rattle.std.proofs.Padding.{take_chars-nil, take_chars_stops, take_chars_keeps}
use Rattle.std.specs.Fmt.{take_chars}
use Rattle.msi_table_values.proofs.printing.end_of.Goals as goal
use Rattle.msi_table_values.proofs.printing.end_of.Goals.{then-is_first+else-left-eq0, else-is_first}

pub returns-then-left-eq0 : goal.returns-then-left-eq0
returns-then-left-eq0 c =
    let s = c.args.text.now in
    let i = c.loop-at.at in
    sym (take_chars_stops s i c.loop-at-test.true (sym c.is_first.ensures ∙ c.if-is_first.true))
    ∙ ap (λ n. take i s ++ take_chars n (drop i s)) (sym c.if-left-eq0.true) ∙ c.loop-at.invariant

pub loop-at-preserved : goal.loop-at-preserved
loop-at-preserved c =
    let keeps = take_chars_keeps c.args.text.now c.loop-at.at c.loop-at.left c.if-is_first.left in
    let test = sym c.is_first.ensures in
    elim c.if-is_first.branch [
      | then-is_first+else-left-eq0 w ↦ keeps true c.loop-at-test.true (test ∙ w.if-is_first.true) (omega arith) ∙ c.loop-at.invariant
      | else-is_first w ↦ keeps false c.loop-at-test.true (test ∙ w.if-is_first.false) (omega arith) ∙ c.loop-at.invariant
    ]

pub returns : goal.returns
returns c =
    let s = c.args.text.now in
    let past = c.loop-at-test.false in
    take-length s ∙ sym (append-nil s)
    ∙ rw (take_all c.loop-at.at s past, drop_of_length-le s past, take_chars-nil) at c.loop-at.invariant
