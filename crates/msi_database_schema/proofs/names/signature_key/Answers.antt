use Rattle.std.proofs.Common.{refl, ◌∙◌}
use Rattle.msi_database_schema.specs.Keys.{signature_key}
use Rattle.msi_database_schema.proofs.NamesLemmas.{ascii_length, ascii_units}
use Rattle.msi_database_schema.proofs.names.signature_key.Goals as goal

pub fixed_name-requires : goal.fixed_name-requires
fixed_name-requires c = ascii_length signature_key refl refl

pub returns : goal.returns
returns c = c.fixed_name.ensures ∙ ascii_units signature_key refl
