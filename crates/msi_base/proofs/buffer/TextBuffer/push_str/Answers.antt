use Rattle.std.proofs.Common.{sym, subst}
use Rattle.std.specs.Prelude.{IsUtf8}
use Rattle.std.proofs.lemmas.Str.{IsUtf8-string_bytes, IsUtf8-append}
use Rattle.msi_base.proofs.buffer.TextBuffer.push_str.Goals as goal

pub invariant_of-self : goal.invariant_of-self
invariant_of-self c = IsUtf8-string_bytes c.push_str.new.self

pub invariant_of-self-in_ok-whole-in-Part-2 : goal.invariant_of-self-in_ok-whole-in-Part-2
invariant_of-self-in_ok-whole-in-Part-2 c = IsUtf8-string_bytes c.in_ok-whole-in-Part.whole

pub invariant_of-self-else-not-take_in : goal.invariant_of-self-else-not-take_in
invariant_of-self-else-not-take_in c =
    let taken = c.take_in.ensures.taken c.if-not-take_in.false in
    subst IsUtf8 (sym taken) (IsUtf8-append c.in-Part.part c.as_bytes.result.now (rw c.in-Part.is at c.self.invariant) (rw c.as_bytes.ensures.value c.utf8.text))
