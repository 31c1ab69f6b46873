use Rattle.std.proofs.Common.{◌∙◌, rules}
use Rattle.msi_database_storage.proofs.CopyingLemmas.{copied_all, copied_more, nothing_copied}
use Rattle.msi_database_storage.proofs.copying.copied_streams.Goals as goal

pub loop-name-init : goal.loop-name-init
loop-name-init c = nothing_copied c.new-copy.result c.args.streams.now c.into_iter-name-iterator.result c.new-copy.ensures (search rules)

pub loop-name-preserved : goal.loop-name-preserved
loop-name-preserved c =
    copied_more c.loop-name.copy c.insert.new.self c.args.streams.now c.duplicate.result c.in_ok-clone.field-0 c.in-Some.name.now c.in-Some.bytes.now
    c.loop-name.name-iterator c.next.new.self c.loop-name.invariant (search rules) c.in_ok-insert.ensures.ok c.duplicate.ensures c.in_ok-clone.ensures.cases

pub returns-clause-ok : goal.returns-clause-ok
returns-clause-ok c = copied_all c.loop-name.copy c.args.streams.now c.loop-name.name-iterator c.loop-name.invariant (search rules)
