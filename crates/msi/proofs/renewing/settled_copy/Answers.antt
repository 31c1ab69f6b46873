use Rattle.std.proofs.Common.{◌∙◌, ap, rules}
use Rattle.std.specs.FinMap.{entries}
use Rattle.msi.proofs.writing.CopyingLemmas.{settled_none, settled_some}
use Rattle.msi.proofs.renewing.settled_copy.Goals.{in-Some+in_ok-copied_bytes+in_ok-insert, in_default}
use Rattle.msi.proofs.renewing.settled_copy.Goals as goal

pub returns-clause-ok : goal.returns-clause-ok
returns-clause-ok c = elim c.match-name.branch [
  | in-Some+in_ok-copied_bytes+in_ok-insert w ↦
      ap entries w.copy-is
      ∙ settled_some c.in_ok-copy.copy w.insert.new.self c.args.streams.now w.duplicate.result w.in_ok-copied_bytes.field-0 w.in-Some.name c.args.current.now.bytes c.args.name.now
      c.in_ok-copy.ensures.ok w.in_ok-insert.ensures.ok w.duplicate.ensures (w.in_ok-copied_bytes.ensures ∙ w.as_slice.ensures) (search rules)
  | in_default w ↦ ap entries w.copy-is ∙ settled_none c.in_ok-copy.copy c.args.streams.now c.args.current.now.bytes c.args.name.now c.in_ok-copy.ensures.ok (search rules)
]
