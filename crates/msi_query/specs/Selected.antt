-- The rows that a query gives, as callers see them.
use Rattle.std.specs.Prelude.{◌≡◌, Result, Ok, Err}
use Rattle.msi_base.specs.declared.errors.ErrorKind.{ErrorKind}
use Rattle.msi_table.specs.Rows.{RowsDef}
use Rattle.msi_query.specs.Rows.{rows_values}
use Rattle.msi_query.specs.Selection.{Relation}

-- columns and rows of what is selected; its name is not told
abbrev pub Selects : Result Relation ErrorKind → RowsDef → Type 0
Selects (Ok r) rows = (r.columns ≡ rows.columns) × (r.rows ≡ rows_values rows.places rows.rows)
Selects (Err kind) rows = ⊥
