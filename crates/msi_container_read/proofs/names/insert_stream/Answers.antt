use Rattle.std.proofs.Common.{sym, ◌∙◌}
use Rattle.msi_container_tables.proofs.entry_names.MapNamesLemmas.{was_there, was_absent}
use Rattle.msi_container_read.proofs.names.insert_stream.Goals as goal

pub returns-then-len-before-clause-invalid : goal.returns-then-len-before-clause-invalid
returns-then-len-before-clause-invalid c = λ _.
    was_there c.args.streams.now _ c.args.name c.args.bytes _ c.in_ok-insert.ensures.ok c.len-before.ensures (sym c.len.ensures ∙ c.if-len-before.true)

pub returns-clause-free : goal.returns-clause-free
returns-clause-free c =
    was_absent c.args.streams.now _ c.args.name c.args.bytes _ c.in_ok-insert.ensures.ok c.len-before.ensures (λ same. c.if-len-before.false (c.len.ensures ∙ same))
