use Rattle.std.proofs.Common.{sym, ◌∙◌}
use Rattle.msi_database_changes.proofs.table_changes.CreatingLemmas.{short_lengths}
use Rattle.msi_database_changes.proofs.create.refuse_columns.Goals as goal

pub returns-clause-short : goal.returns-clause-short
returns-clause-short c = short_lengths c.args.columns.now (sym c.has_long.ensures ∙ c.if-has_long.false)
