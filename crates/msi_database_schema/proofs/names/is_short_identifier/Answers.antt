use Rattle.std.proofs.Common.{sym, ◌∙◌}
use Rattle.msi_database_schema.proofs.NamesLemmas.{valid_if_short}
use Rattle.msi_database_schema.proofs.names.is_short_identifier.Goals as goal

pub returns : goal.returns
returns c = c.is_valid.ensures.value ∙ valid_if_short c.args.name.now (sym c.validate.ensures ∙ c.if-not-validate.false)
