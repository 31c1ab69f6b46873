use Rattle.std.proofs.Common.{refl}
use Rattle.msi_summary_properties.proofs.PlainSectionLemmas.{stream_written, told_of}
use Rattle.msi_summary_properties.proofs.ReadBackLemmas.{sets_read_back}
use Rattle.msi_summary_properties.proofs.writing.plain_bytes.Goals as goal

pub returns-clause-ok : goal.returns-clause-ok
returns-clause-ok c =
    stream_written c.args.set.now c.args.page c.values-values.result.now.entries c.args.size c.new-held.result.items c.push_header.new.held.items c.push_section_head.new.held.items c.push_values.new.held.items
    c.requires.page c.values-values.ensures.values c.requires.accepted c.requires.size c.new-held.ensures.items
    c.in_ok-push_header.ensures c.in_ok-push_section_head.ensures c.in_ok-push_values.ensures.ok

pub returns-clause-spelled : goal.returns-clause-spelled
returns-clause-spelled c = λ writable. sets_read_back c.args.set.now _ c.values-values.ensures.kept writable
    (told_of c.args.set.now c.args.page c.args.set.now.values c.requires.page refl c.requires.accepted) (returns-clause-ok c)
