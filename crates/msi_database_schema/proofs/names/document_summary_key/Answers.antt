use Rattle.std.proofs.Common.{refl, ◌∙◌}
use Rattle.msi_database_schema.specs.Keys.{document_summary_key}
use Rattle.msi_database_schema.proofs.NamesLemmas.{ascii_length, ascii_units}
use Rattle.msi_database_schema.proofs.names.document_summary_key.Goals as goal

pub fixed_name-requires : goal.fixed_name-requires
fixed_name-requires c = ascii_length document_summary_key refl refl

pub returns : goal.returns
returns c = c.fixed_name.ensures ∙ ascii_units document_summary_key refl
