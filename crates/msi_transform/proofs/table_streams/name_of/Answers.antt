use Rattle.std.proofs.Common.{◌∙◌, ap}
use Rattle.msi_container_format.specs.Names.{units_of}
use Rattle.msi_transform.proofs.TableStreamsLemmas.{text_is}
use Rattle.msi_transform.proofs.table_streams.name_of.Goals as goal

pub returns-clause-ok : goal.returns-clause-ok
returns-clause-ok c = c.from_string.ensures
    ∙ text_is c.args.key.now c.as_str.result.now c.in_ok-name.name c.in_ok-name.field-0-1 c.as_str.utf8
    (ap units_of c.as_str.ensures.value ∙ c.in_ok-encoded.ensures.ok) c.in_ok-name.ensures.ok
