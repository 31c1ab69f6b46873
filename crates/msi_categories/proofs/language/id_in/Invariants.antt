use Rattle.std.proofs.Common.{◌≡◌, drop, find, bytes_eq}
use Rattle.msi_categories.specs.LanguageRows.{rows_told}
use Rattle.msi_categories.proofs.language.id_in.Given as goal

-- the rows that are left find what all rows find
abbrev pub invariant-loop-row : goal.invariant-loop-row
invariant-loop-row l =
    find (λ row. bytes_eq row.1 l.tag) (rows_told (drop l.row-index l.rows)) ≡ find (λ row. bytes_eq row.1 l.tag) (rows_told l.rows)
