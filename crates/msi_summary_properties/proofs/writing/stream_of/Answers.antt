use Rattle.std.proofs.Common.{◌∙◌}
use Rattle.std.proofs.lemmas.Result.{err_from_is_err_and}
use Rattle.msi_summary_properties.proofs.PlainSectionLemmas.{never_input, refused_input, refused_is, told_of}
use Rattle.msi_summary_properties.proofs.writing.stream_of.Goals as goal

pub returns-in_err-size-clause-refused : goal.returns-in_err-size-clause-refused
returns-in_err-size-clause-refused c =
    let p = err_from_is_err_and c.from_residual.result c.from_residual.ensures.1 in
    refused_input c.from_residual.result _ _ p.1 (p.2 ∙ c.in_err-size.ensures.kind)
    (refused_is c.args.set.now c.codepage-page.result c.values.result.now.entries c.codepage-page.ensures c.values.ensures.values c.in_err-size.ensures.refused)

pub returns-clause-refused : goal.returns-clause-refused
returns-clause-refused c =
    never_input c.plain_bytes.result _ c.plain_bytes.ensures.kind
    (told_of c.args.set.now c.codepage-page.result c.values.result.now.entries c.codepage-page.ensures c.values.ensures.values c.in_ok-size.ensures.accepted)
