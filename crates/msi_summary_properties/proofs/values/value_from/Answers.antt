use Rattle.std.proofs.Common.{subst}
use Rattle.msi_summary_properties.proofs.SharedTextsLemmas.{shared_value}
use Rattle.msi_summary_properties.specs.SharedTexts.{BeginsText}
use Rattle.msi_summary_properties.proofs.values.value_from.Goals as goal

pub returns-in-Some-2 : goal.returns-in-Some-2
returns-in-Some-2 c =
    let bytes = c.args.bytes.now in
    let read = rw c.in-Some-2.is at (c.in_ok-text.ensures.ok bytes c.requires) in
    shared_value c.args.version c.args.page bytes c.args.start c.in-Some.len c.in-Some-2.text (subst (λ rest. BeginsText rest c.in-Some.len) c.rest_from-rest.ensures c.in-Some.ensures) read
