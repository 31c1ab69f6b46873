use Rattle.std.proofs.Common.{◌≡◌, drop, find, bytes_eq}
use Rattle.std.specs.List.{flat_map}
use Rattle.msi_categories.specs.LanguageRows.{language_rows, rows_told}
use Rattle.msi_categories.proofs.language.LanguageId.from_tag.Given as goal

-- the tables that are left find what all rows find
abbrev pub invariant-loop-rows : goal.invariant-loop-rows
invariant-loop-rows l =
    find (λ row. bytes_eq row.1 l.tag) (flat_map (λ rows. rows_told rows.now) (drop l.rows-index l.rows-items)) ≡ find (λ row. bytes_eq row.1 l.tag) language_rows
