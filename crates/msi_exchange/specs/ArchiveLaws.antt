-- Texts mean at most one archive, and what is written of an archive means it.
use Rattle.std.specs.Prelude.{◌≡◌, true, ◌&&◌, ℕ, List, [], ◌++◌}
use Rattle.std.specs.List.{flat_map, list_all}
use Rattle.msi_exchange.specs.Archives.{ArchiveDef}
use Rattle.msi_exchange.specs.TextArchives.{Means}
use Rattle.msi_exchange.specs.Writing.{archive_text, can_write, has_row_line, row_line}

-- a text means at most one archive
abbrev pub OneArchive : Type 0
OneArchive = (text : List ℕ) (a b : ArchiveDef) → Means text a → Means text b → a ≡ b

-- an archive has a text that means it exactly where it can be written
abbrev pub OthersHaveNoText : Type 0
OthersHaveNoText = (text : List ℕ) (archive : ArchiveDef) → Means text archive → can_write archive ≡ true

abbrev pub without_rows : ArchiveDef → ArchiveDef
without_rows archive = record archive { rows = [] }

-- the text of an archive is that of the archive without its rows, and behind it the line of each row
abbrev pub LinesBehind : ArchiveDef → Type 0
LinesBehind archive = archive_text archive ≡ archive_text (without_rows archive) ++ flat_map row_line archive.rows

-- an archive can be written exactly where the archive without its rows and each line can
abbrev pub WrittenByRows : ArchiveDef → Type 0
WrittenByRows archive =
    can_write archive ≡ (can_write (without_rows archive) && list_all (has_row_line archive.columns) archive.rows)

abbrev pub RowsStandBehind : Type 0
RowsStandBehind = (archive : ArchiveDef) → LinesBehind archive × WrittenByRows archive
