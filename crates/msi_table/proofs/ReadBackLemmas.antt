-- Tables read back.
use Rattle.std.proofs.Common.{◌≡◌, ℕ, zero, suc, ◌+◌, ◌*◌, ◌/◌, ◌<◌, ◌≤◌, Bool, true, false, List, [], ◌∷◌, ◌++◌, length, take, drop, refl, sym, ap, ◌∙◌, arith, map, Some, None, sum, subst, Option}
use Rattle.std.specs.List.{flat_map, slice_get}
use Rattle.std.specs.Prelude.{slice_index_or, nat_le, if◌then◌else◌}
use Rattle.std.proofs.lemmas.List as lists
use Rattle.std.proofs.lemmas.List.FromFn.{fill_by_all}
use Rattle.std.proofs.lemmas.List.Sums.{sum_by-cons}
use Rattle.std.proofs.lemmas.Option.{slice_get-get_or, unwrap_or-slice_get, same_Some}
use Rattle.std.proofs.lemmas.Bool.Decides.{nat_tests}
use Rattle.std.proofs.Math.Nat as nat
use Rattle.msi_base.specs.Lists.{tabulated}
use Rattle.msi_base.proofs.OptionLemmas.{none_is}
use Rattle.msi_table_values.specs.declared.column.ColumnType.{ColumnType}
use Rattle.msi_table_values.specs.declared.column.ColumnType.TheVariants as coltype
use Rattle.msi_table_cells.specs.declared.cell.ValueRef.{ValueRef}
use Rattle.msi_table_cells.specs.declared.cell.ValueRef.TheVariants as cell
use Rattle.msi_table_cells.proofs.SortedRowsLemmas.{all_at}
use Rattle.msi_table.specs.Cells.{cell_in, cell_bytes, width, widths, row_count, cell_at, rows_in, column_bytes, table_bytes}
use Rattle.msi_table_cells.specs.Fitting.{cell_of, FitsRow, FitsTable}
use Rattle.msi_table_cells.proofs.FittingLemmas.{fits_at, fits_length}
use Rattle.msi_table.proofs.RoundTripLemmas.{length-cell_bytes, cell_in-cell_bytes}
use Rattle.msi_table.proofs.PiecesLemmas.{numbers_from_is, length-pieces, piece_at}

zero_plus : (n : ℕ) → 0 + n ≡ n
zero_plus n = omega arith

plus_zero : (n : ℕ) → n + 0 ≡ n
plus_zero n = omega arith

-- the first column stands in front of the place
place_after : (n w : ℕ) (ws : List ℕ) (m : ℕ) → n * sum (w ∷ ws) + m ≡ n * w + (n * sum ws + m)
place_after n w ws m = omega (arith, ap (λ s. n * s) (sum_by-cons (λ (x : ℕ). x) w ws), nat.mul-add n w (sum ws))

if_few : {X : Type 0} (n : ℕ) (o : Option X) → n ≤ 65536 → (if nat_le n 65536 then o else None) ≡ o
if_few n o h = grind (arith, nat_tests)

-- a list is its elements by their indices
pub is_tabulated : {X : Type 0} (f : ℕ → X) (xs : List X) (n : ℕ) (d : X) → length xs ≡ n → ((k : ℕ) → k < n → slice_index_or xs k d ≡ f k) → xs ≡ tabulated n f
is_tabulated f xs n d l each = fill_by_all f xs n d l each ∙ ap (map f) (sym (numbers_from_is 0 n))

-- the cells of one column, and how long all are
pub width_above : (long : Bool) (t : ColumnType) → 2 ≤ width long t
width_above long coltype.Int16 = omega arith
width_above long coltype.Int32 = omega arith
width_above true (coltype.Str n) = omega arith
width_above false (coltype.Str n) = omega arith
width_above long coltype.Binary = omega arith

pub sum-widths : (long : Bool) (t : ColumnType) (ts : List ColumnType) → sum (widths long (t ∷ ts)) ≡ width long t + sum (widths long ts)
sum-widths long t ts = sum_by-cons (λ (x : ℕ). x) (width long t) (widths long ts)

pub width_of_row : (long : Bool) (types : List ColumnType) → 0 < length types → 0 < sum (widths long types)
width_of_row long [] h = absurd (omega arith)
width_of_row long (t ∷ ts) h = omega (arith, sum-widths long t ts, width_above long t)

module _ (long : Bool) (rows : List (List ValueRef)) where
  pub length-column_bytes : (j : ℕ) (types : List ColumnType) → length (column_bytes long rows j types) ≡ length rows * sum (widths long types)
  length-column_bytes j [] = sym (nat.mul-zero (length rows))
  length-column_bytes j (t ∷ ts) =
      lists.length-append (flat_map (λ row. cell_bytes long t (cell_of row j)) rows) (column_bytes long rows (j + 1) ts)
      ∙ omega (
        arith,
        length-pieces (λ row. cell_bytes long t (cell_of row j)) (width long t) (λ row. length-cell_bytes long t (cell_of row j)) rows,
        length-column_bytes (j + 1) ts,
        nat.mul-add (length rows) (width long t) (sum (widths long ts)),
        ap (λ s. length rows * s) (sum-widths long t ts),
      )

  -- the bytes at the place of a cell are the cell's
  pub cell_spelled : (types : List ColumnType) (k j i : ℕ) (t : ColumnType) → slice_get types j ≡ Some t → i < length rows
      → take (width long t) (drop (length rows * sum (take j (widths long types)) + i * width long t) (column_bytes long rows k types)) ≡ cell_bytes long t (cell_of (slice_index_or rows i []) (k + j))
  cell_spelled [] k j i t e h = none_is e
  cell_spelled (s ∷ ts) k zero i t e h = subst
      (λ (x : ColumnType). take (width long x) (drop (length rows * zero + i * width long x) (column_bytes long rows k (s ∷ ts))) ≡ cell_bytes long x (cell_of (slice_index_or rows i []) (k + 0)))
      (same_Some s t e)
      (rw (nat.mul-zero (length rows), zero_plus (i * width long s), plus_zero k)
      (piece_at (λ row. cell_bytes long s (cell_of row k)) (width long s) (λ row. length-cell_bytes long s (cell_of row k)) rows (column_bytes long rows (k + 1) ts) i [] h))
  cell_spelled (s ∷ ts) k (suc j) i t e h =
      ap (λ n. take (width long t) (drop n (column_bytes long rows k (s ∷ ts)))) (place_after (length rows) (width long s) (take j (widths long ts)) (i * width long t))
      ∙ ap (take (width long t)) (sym (lists.drop-drop (length rows * sum (take j (widths long ts)) + i * width long t) (length rows * width long s) (column_bytes long rows k (s ∷ ts)))
      ∙ ap (drop (length rows * sum (take j (widths long ts)) + i * width long t)) (lists.drop_at (flat_map (λ row. cell_bytes long s (cell_of row k)) rows) (column_bytes long rows (k + 1) ts) (length rows * width long s)
      (length-pieces (λ row. cell_bytes long s (cell_of row k)) (width long s) (λ row. length-cell_bytes long s (cell_of row k)) rows)))
      ∙ cell_spelled ts (k + 1) j i t e h
      ∙ ap (λ n. cell_bytes long t (cell_of (slice_index_or rows i []) n)) (omega arith)

-- the place of a cell, where the count of rows is known
pub cell_at_is : (long : Bool) (types : List ColumnType) (bytes : List ℕ) (n i j : ℕ) (t : ColumnType) → row_count long types bytes ≡ n → slice_get types j ≡ Some t
    → cell_at long types bytes i j ≡ cell_in t (take (width long t) (drop (n * sum (take j (widths long types)) + i * width long t) bytes))
cell_at_is long types bytes n i j t e s = rw (s, e)

pub rows_in_is : (long : Bool) (types : List ColumnType) (bytes : List ℕ) (n : ℕ) → row_count long types bytes ≡ n → n ≤ 65536
    → rows_in long types bytes ≡ Some (tabulated n (λ i. tabulated (length types) (λ j. cell_at long types bytes i j)))
rows_in_is long types bytes n e h = if_few (row_count long types bytes) _ (omega arith)
    ∙ ap (λ m. Some (tabulated m (λ i. tabulated (length types) (λ j. cell_at long types bytes i j)))) e

module _ (long : Bool) (types : List ColumnType) (rows : List (List ValueRef)) (fits : FitsTable long types rows) where
  pub row_count-table_bytes : row_count long types (table_bytes long types rows) ≡ length rows
  row_count-table_bytes = ap (λ n. n / sum (widths long types)) (length-column_bytes long rows 0 types) ∙ nat.mul-div_cancel (length rows) (width_of_row long types fits.some_column)

  read_cell : (i j : ℕ) → i < length rows → j < length types → cell_of (slice_index_or rows i []) j ≡ cell_at long types (table_bytes long types rows) i j
  read_cell i j h l =
      let t : ColumnType = slice_index_or types j coltype.Int16 in
      let e : slice_get types j ≡ Some t = slice_get-get_or types j coltype.Int16 l in
      let c : ValueRef = cell_of (slice_index_or rows i []) j in
      let row : FitsRow long types (slice_index_or rows i []) = all_at (FitsRow long types) rows i [] fits.each_row h in
      sym (cell_at_is long types (table_bytes long types rows) (length rows) i j t row_count-table_bytes e
      ∙ ap (cell_in t) (cell_spelled long rows types 0 j i t e h ∙ ap (λ n. cell_bytes long t (cell_of (slice_index_or rows i []) n)) (zero_plus j))
      ∙ cell_in-cell_bytes long t c (fits_at long types (slice_index_or rows i []) j t row e))

  read_row : (i : ℕ) → i < length rows → slice_index_or rows i [] ≡ tabulated (length types) (λ j. cell_at long types (table_bytes long types rows) i j)
  read_row i h = is_tabulated _ (slice_index_or rows i []) (length types) cell.Null (fits_length long types _ (all_at (FitsRow long types) rows i [] fits.each_row h))
      (λ j l. sym (unwrap_or-slice_get (slice_index_or rows i []) j cell.Null) ∙ read_cell i j h l)

  -- a table whose cells fit reads back
  pub rows_in-table_bytes : rows_in long types (table_bytes long types rows) ≡ Some rows
  rows_in-table_bytes = rows_in_is long types (table_bytes long types rows) (length rows) row_count-table_bytes fits.few_rows
      ∙ ap Some (sym (is_tabulated _ rows (length rows) [] refl read_row))

-- one more column behind the bytes
pub column_written : (long : Bool) (types : List ColumnType) (rows : List (List ValueRef)) (out more : List ℕ) (j : ℕ) (t : ColumnType) → j < length types → t ≡ slice_index_or types j coltype.Int16
    → more ≡ out ++ flat_map (λ row. cell_bytes long t (cell_of row j)) rows
    → more ++ column_bytes long rows (j + 1) (drop (j + 1) types) ≡ out ++ column_bytes long rows j (drop j types)
column_written long types rows out more j t h e is =
    ap (λ (l : List ℕ). l ++ column_bytes long rows (j + 1) (drop (j + 1) types)) is
    ∙ lists.append_assoc out (flat_map (λ row. cell_bytes long t (cell_of row j)) rows) (column_bytes long rows (j + 1) (drop (j + 1) types))
    ∙ ap (λ (s : ColumnType). out ++ (flat_map (λ row. cell_bytes long s (cell_of row j)) rows ++ column_bytes long rows (j + 1) (drop (j + 1) types))) e
    ∙ ap (λ (l : List ColumnType). out ++ column_bytes long rows j l) (sym (lists.drop_more types j coltype.Int16 h))
