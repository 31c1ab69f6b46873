use Rattle.std.proofs.Common.{sym, ◌∙◌}
use Rattle.std.proofs.lemmas.Result.{on_ok_weaker}
use Rattle.msi_summary_properties.specs.PropertyWriting.{plain_pairs}
use Rattle.msi_summary_properties.proofs.PlainSectionLemmas.{head_written, length-pairs}
use Rattle.msi_summary_properties.proofs.writing.push_section_head.Goals as goal

pub returns : goal.returns
returns c =
    let values = c.args.values.now.entries in
    let pairs = plain_pairs c.args.page values in
    on_ok_weaker c.push_pairs.result (
    head_written c.args.size c.len.result pairs c.args.held.now.items c.push_u32.new.held.items c.push_u32-2.new.held.items c.push_pairs.new.held.items
    (c.len.ensures.len ∙ sym (length-pairs c.args.page _ values))
    c.in_ok-push_u32.ensures.ok c.in_ok-push_u32-2.ensures.ok
    ) c.push_pairs.ensures
