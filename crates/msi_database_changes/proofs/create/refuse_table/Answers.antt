use Rattle.std.specs.List.{AllByRecursion}
use Rattle.std.proofs.lemmas.Result.{on_ok_weaker}
use Rattle.msi_table_values.specs.Columns.{HasShortLength}
use Rattle.msi_database_changes.proofs.table_changes.CreatingLemmas.{short_by}
use Rattle.msi_database_changes.proofs.create.refuse_table.Goals as goal

pub returns-clause-short : goal.returns-clause-short
returns-clause-short c = on_ok_weaker {P = AllByRecursion (λ c. HasShortLength c.coltype) c.args.columns.now} c.refuse_columns.result (short_by c.args.columns.now) c.refuse_columns.ensures.short
