-- Columns that are alike are stored and read alike.
use Rattle.std.proofs.Common.{◌≡◌, ℕ, suc, ◌+◌, Bool, true, List, [], ◌∷◌, length, refl, sym, ap, ◌∙◌, Some, None}
use Rattle.std.specs.Prelude.{◌*◌, ◌/◌, nat_le, if◌then◌else◌, Option, map, take, drop, option_map, slice_get, sum}
use Rattle.std.specs.Option.{option_map_or}
use Rattle.msi_base.specs.Lists.{tabulated}
use Rattle.msi_table_values.specs.declared.column.ColumnType.{ColumnType}
use Rattle.msi_table_values.specs.declared.column.ColumnType.TheVariants as coltype
use Rattle.msi_table_cells.specs.declared.cell.ValueRef.{ValueRef}
use Rattle.msi_table_cells.specs.declared.cell.ValueRef.TheVariants as cell
use Rattle.msi_table.specs.Cells.{cell_at, cell_in, cell_place, row_count, rows_in, width, widths}
use Rattle.msi_table_values.specs.Columns.{ColumnDef, types_of}
use Rattle.msi_database_changes.specs.Database.{are_alike, same_kind}
use Rattle.std.proofs.lemmas.Option.{slice_get-map}
use Rattle.std.proofs.lemmas.Bool.{and_parts}

-- a type without its length
abbrev pub plain : ColumnType → ColumnType
plain coltype.Int16 = coltype.Int16
plain coltype.Int32 = coltype.Int32
plain (coltype.Str n) = coltype.Str 0
plain coltype.Binary = coltype.Binary

plain_width : (long : Bool) (type : ColumnType) → width long (plain type) ≡ width long type
plain_width long coltype.Int16 = refl
plain_width long coltype.Int32 = refl
plain_width long (coltype.Str n) = refl
plain_width long coltype.Binary = refl

plain_cell : (type : ColumnType) (bytes : List ℕ) → cell_in (plain type) bytes ≡ cell_in type bytes
plain_cell coltype.Int16 bytes = refl
plain_cell coltype.Int32 bytes = refl
plain_cell (coltype.Str n) bytes = refl
plain_cell coltype.Binary bytes = refl

plain_widths : (long : Bool) (types : List ColumnType) → widths long (map plain types) ≡ widths long types
plain_widths long [] = refl
plain_widths long (t ∷ ts) = λ i. plain_width long t i ∷ plain_widths long ts i

as_many : (types : List ColumnType) → length (map plain types) ≡ length types
as_many [] = refl
as_many (t ∷ ts) = ap (λ n. suc n) (as_many ts)

plain_count : (long : Bool) (types : List ColumnType) (bytes : List ℕ) → row_count long (map plain types) bytes ≡ row_count long types bytes
plain_count long types bytes = ap (λ (ws : List ℕ). length bytes / sum ws) (plain_widths long types)

plain_cell_at : (long : Bool) (types : List ColumnType) (bytes : List ℕ) (i j : ℕ) → cell_at long (map plain types) bytes i j ≡ cell_at long types bytes i j
plain_cell_at long types bytes i j = ap (λ (o : Option ColumnType). option_map_or read_plain o cell.Null) (slice_get-map plain types j) ∙ go (slice_get types j)
  where
    read_plain : ColumnType → ValueRef
    read_plain t = cell_in t (take (width long t) (drop (cell_place long (map plain types) (row_count long (map plain types) bytes) j t i) bytes))

    read_own : ColumnType → ValueRef
    read_own t = cell_in t (take (width long t) (drop (cell_place long types (row_count long types bytes) j t i) bytes))

    go : (o : Option ColumnType) → option_map_or read_plain (option_map plain o) cell.Null ≡ option_map_or read_own o cell.Null
    go None = refl
    go (Some t) = (λ k. cell_in (plain t) (take (plain_width long t k) (drop (plain_count long types bytes k * sum (take j (plain_widths long types k)) + i * plain_width long t k) bytes)))
        ∙ plain_cell t (take (width long t) (drop (cell_place long types (row_count long types bytes) j t i) bytes))

same_plain : (s t : ColumnType) → same_kind s t ≡ true → plain s ≡ plain t
same_plain coltype.Int16 coltype.Int16 e = refl
same_plain coltype.Int32 coltype.Int32 e = refl
same_plain (coltype.Str m) (coltype.Str n) e = refl
same_plain coltype.Binary coltype.Binary e = refl
same_plain coltype.Int16 coltype.Int32 e = cc
same_plain coltype.Int16 (coltype.Str n) e = cc
same_plain coltype.Int16 coltype.Binary e = cc
same_plain coltype.Int32 coltype.Int16 e = cc
same_plain coltype.Int32 (coltype.Str n) e = cc
same_plain coltype.Int32 coltype.Binary e = cc
same_plain (coltype.Str m) coltype.Int16 e = cc
same_plain (coltype.Str m) coltype.Int32 e = cc
same_plain (coltype.Str m) coltype.Binary e = cc
same_plain coltype.Binary coltype.Int16 e = cc
same_plain coltype.Binary coltype.Int32 e = cc
same_plain coltype.Binary (coltype.Str n) e = cc

alike_types : (columns others : List ColumnDef) → are_alike columns others ≡ true → map plain (types_of columns) ≡ map plain (types_of others)
alike_types [] [] e = refl
alike_types [] (d ∷ ds) e = cc
alike_types (c ∷ cs) [] e = cc
alike_types (c ∷ cs) (d ∷ ds) e =
    let g = and_parts _ (are_alike cs ds) e in
    let kind : same_kind c.coltype d.coltype ≡ true = (and_parts _ _ ((and_parts _ _ (g.0)).0)).1 in
    λ i. same_plain c.coltype d.coltype kind i ∷ alike_types cs ds (g.1) i

plain_rows : (long : Bool) (types : List ColumnType) (bytes : List ℕ) → rows_in long (map plain types) bytes ≡ rows_in long types bytes
plain_rows long types bytes = λ k. if nat_le (plain_count long types bytes k) 65536
    then Some (tabulated (plain_count long types bytes k) (λ i. tabulated (as_many types k) (λ j. plain_cell_at long types bytes i j k)))
    else None

-- the rows that bytes spell, and how rows are spelled
pub rows_alike : (long : Bool) (columns others : List ColumnDef) (bytes : List ℕ) → are_alike columns others ≡ true → rows_in long (types_of columns) bytes ≡ rows_in long (types_of others) bytes
rows_alike long columns others bytes e = sym (plain_rows long (types_of columns) bytes) ∙ ap (λ (types : List ColumnType). rows_in long types bytes) (alike_types columns others e) ∙ plain_rows long (types_of others) bytes
