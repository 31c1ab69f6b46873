use Rattle.std.proofs.Common.{◌∙◌, ap}
use Rattle.msi_container_format.specs.Names.{units_of}
use Rattle.msi_streams.proofs.NameLemmas.{text_is}
use Rattle.msi_streams.proofs.names.text_of.Goals as goal

pub returns-clause-ok : goal.returns-clause-ok
returns-clause-ok c =
    text_is c.args.name.now c.as_str.result.now c.in_ok-text.text c.in_ok-text.field-0-1 c.as_str.utf8
    (ap units_of c.as_str.ensures.value ∙ c.in_ok-encoded.ensures.ok) c.in_ok-text.ensures.ok
