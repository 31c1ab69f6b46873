-- Rows that are read are as wide as the columns, and fit them.
use Rattle.std.proofs.Common.{◌≡◌, ℕ, zero, suc, ◌*◌, ◌^◌, ◌<◌, ◌≤◌, Bool, true, false, List, [], ◌∷◌, length, take, drop, sum, ◌⊎◌, Some, None, ap, ◌∙◌, subst, arith, ⊎_elim}
use Rattle.std.proofs.lemmas.Bool.{cases_Bool}
use Rattle.std.proofs.lemmas.Bool.Decides.{nat_tests}
use Rattle.std.proofs.lemmas.Int.{ints}
use Rattle.std.proofs.lemmas.List as lists
use Rattle.std.proofs.lemmas.Option.{cond_some, slice_get-get_or, slice_get_past}
use Rattle.std.specs.List.{AllByRecursion}
use Rattle.std.specs.Prelude.{slice_get, slice_index, slice_index_or, All, nat_le, ◌==◌, if◌then◌else◌}
use Rattle.msi_base.specs.Lists.{numbers_from, tabulated}
use Rattle.msi_base.proofs.ListLemmas.{all_mapped, length-numbers_from, tabulated_at}
use Rattle.msi_pool.specs.References.{number_of}
use Rattle.msi_table_values.specs.declared.column.ColumnType.{ColumnType}
use Rattle.msi_table_values.specs.declared.column.ColumnType.TheVariants as coltype
use Rattle.msi_table_cells.specs.declared.cell.ValueRef.TheVariants as cell
use Rattle.msi_table.specs.Cells.{AreStarts, width, widths, row_count, cell_in, cell_of_number, cell_at, cell_place, row_in}
use Rattle.msi_table_values.specs.Columns.{ColumnDef, types_of}
use Rattle.msi_table_cells.specs.Fitting.{FitsColumn, FitsRow, FitsTable}
use Rattle.msi_table.specs.Rows.{AreAsWide, cell_in_row}
use Rattle.msi_table.specs.Tables.{ReadRowsFit}
use Rattle.msi_table_cells.proofs.FittingLemmas.{fits_by_cells}
use Rattle.msi_table_values.proofs.ColumnTypesLemmas.{below_types, length-types_of}
use Rattle.msi_table_cells.proofs.SortedRowsLemmas.{all_at}

pub length-tabulated : {X : Type 0} (n : ℕ) (f : ℕ → X) → length (tabulated n f) ≡ n
length-tabulated n f = lists.length-map (numbers_from 0 n) f ∙ length-numbers_from 0 n

-- bytes, and what few of them spell
abbrev AreBytes : List ℕ → Type 0
AreBytes = AllByRecursion (λ b. b < 256)

bytes_from : (bs : List ℕ) → All (λ b. b < 256) bs → AreBytes bs
bytes_from [] h = tt
bytes_from (b ∷ bs) h = (h 0 0 (omega arith), bytes_from bs (λ k d l. h (suc k) d (omega arith)))

-- as a function knows them
bytes_by_index : (bs : List ℕ) → ((i : ℕ) → slice_index bs i < 256) → AreBytes bs
bytes_by_index [] h = tt
bytes_by_index (b ∷ bs) h = (h 0, bytes_by_index bs (λ i. h (suc i)))

pub all_bytes : (bs : List ℕ) → ((i : ℕ) → slice_index bs i < 256) → All (λ b. b < 256) bs
all_bytes bs h k d l = all_at (λ b. b < 256) bs k d (bytes_by_index bs h) l

bytes_dropped : (n : ℕ) (bs : List ℕ) → AreBytes bs → AreBytes (drop n bs)
bytes_dropped zero bs h = h
bytes_dropped (suc n) [] h = tt
bytes_dropped (suc n) (b ∷ bs) h = bytes_dropped n bs h.1

bytes_taken : (n : ℕ) (bs : List ℕ) → AreBytes bs → AreBytes (take n bs)
bytes_taken zero bs h = tt
bytes_taken (suc n) [] h = tt
bytes_taken (suc n) (b ∷ bs) h = (h.0, bytes_taken n bs h.1)

number_of_two : (bs : List ℕ) → length bs ≤ 2 → AreBytes bs → number_of bs < 65536
number_of_two [] l h = omega arith
number_of_two (a ∷ []) l h = omega (arith, h.0)
number_of_two (a ∷ b ∷ []) l h = omega (arith, h.0, h.1.0)
number_of_two (a ∷ b ∷ c ∷ cs) l h = absurd (omega arith)

number_of_three : (bs : List ℕ) → length bs ≤ 3 → AreBytes bs → number_of bs < 16777216
number_of_three [] l h = omega arith
number_of_three (a ∷ bs) l h = omega (arith, h.0, number_of_two bs (omega arith) h.1)

number_of_four : (bs : List ℕ) → length bs ≤ 4 → AreBytes bs → number_of bs < 4294967296
number_of_four [] l h = omega arith
number_of_four (a ∷ bs) l h = omega (arith, h.0, number_of_three bs (omega arith) h.1)

-- the cell that such bytes spell
int_fits_16 : (long : Bool) (n : ℕ) → n < 65536 → FitsColumn long coltype.Int16 (cell_of_number (2 ^ 15) n)
int_fits_16 long n h = ⊎_elim
    (λ t. rw t tt)
    (λ t. let some : 0 < n = grind (arith, nat_tests) in rw t (omega (arith, ints), omega (arith, ints)))
    (cases_Bool (n == 0))

int_fits_32 : (long : Bool) (n : ℕ) → n < 4294967296 → FitsColumn long coltype.Int32 (cell_of_number (2 ^ 31) n)
int_fits_32 long n h = ⊎_elim
    (λ t. rw t tt)
    (λ t. let some : 0 < n = grind (arith, nat_tests) in rw t (omega (arith, ints), omega (arith, ints)))
    (cases_Bool (n == 0))

text_fits_long : (k n : ℕ) → n < 16777216 → FitsColumn true (coltype.Str k) (if n == 0 then cell.Null else cell.Str n)
text_fits_long k n h = ⊎_elim (λ t. rw t tt) (λ t. let some : 0 < n = grind (arith, nat_tests) in rw t (some, h)) (cases_Bool (n == 0))

text_fits_short : (k n : ℕ) → n < 65536 → FitsColumn false (coltype.Str k) (if n == 0 then cell.Null else cell.Str n)
text_fits_short k n h = ⊎_elim (λ t. rw t tt) (λ t. let some : 0 < n = grind (arith, nat_tests) in rw t (some, h)) (cases_Bool (n == 0))

cell_fits : (long : Bool) (type : ColumnType) (bs : List ℕ) → length bs ≤ width long type → AreBytes bs → FitsColumn long type (cell_in type bs)
cell_fits long coltype.Int16 bs l h = int_fits_16 long (number_of bs) (number_of_two bs l h)
cell_fits long coltype.Int32 bs l h = int_fits_32 long (number_of bs) (number_of_four bs l h)
cell_fits true (coltype.Str k) bs l h = text_fits_long k (number_of bs) (number_of_three bs l h)
cell_fits false (coltype.Str k) bs l h = text_fits_short k (number_of bs) (number_of_two bs l h)
cell_fits long coltype.Binary bs l h = tt

few_taken : (n : ℕ) (bs : List ℕ) → length (take n bs) ≤ n
few_taken n bs = simp lists.length-take (omega arith)

module _ (long : Bool) (types : List ColumnType) (bytes : List ℕ) (h : AreBytes bytes) where
  cell_at_fits : (i j : ℕ) → j < length types → FitsColumn long (slice_index_or types j coltype.Int16) (cell_at long types bytes i j)
  cell_at_fits i j l =
      let t : ColumnType = slice_index_or types j coltype.Int16 in
      let at : ℕ = cell_place long types (row_count long types bytes) j t i in
      rw (slice_get-get_or types j coltype.Int16 l)
      (cell_fits long t (take (width long t) (drop at bytes)) (few_taken (width long t) (drop at bytes)) (bytes_taken (width long t) (drop at bytes) (bytes_dropped at bytes h)))

  row_fits : (i : ℕ) → FitsRow long types (row_in long types bytes i)
  row_fits i = fits_by_cells long types (row_in long types bytes i) (length-tabulated (length types) (cell_at long types bytes i))
      (λ j l. rw (tabulated_at (cell_at long types bytes i) (length types) j l) (cell_at_fits i j l))

-- rows that are read are as wide as the columns
pub read_wide : (long : Bool) (columns : List ColumnDef) (bytes : List ℕ) (count : ℕ) → AreAsWide columns (tabulated count (row_in long (types_of columns) bytes))
read_wide long columns bytes count =
    let types : List ColumnType = types_of columns in
    all_mapped (λ row. length row ≡ length columns) (row_in long types bytes)
    (λ i. length-tabulated (length types) (cell_at long types bytes i) ∙ length-types_of columns) (numbers_from 0 count)

pub read_fits : ReadRowsFit
read_fits long columns bytes rows e =
    let types : List ColumnType = types_of columns in
    let count : ℕ = row_count long types bytes in
    let is = cond_some (nat_le count 65536) (tabulated count (row_in long types bytes)) rows e in (
      subst (AreAsWide columns) is.1 (read_wide long columns bytes count),
      λ some h. subst (FitsTable long types) is.1 (record {
        some_column = omega (arith, length-types_of columns, some);
        few_rows = let few : count ≤ 65536 = grind (arith, nat_tests, is) in omega (arith, length-tabulated count (row_in long types bytes), few);
        each_row = all_mapped (FitsRow long types) (row_in long types bytes) (row_fits long types bytes (bytes_from bytes h)) (numbers_from 0 count);
      }),
    )

-- where columns begin, one for each
pub length-starts : (long : Bool) (columns : List ColumnDef) (n : ℕ) (starts : List ℕ) → AreStarts long (types_of columns) n starts → length starts ≡ length columns
length-starts long columns n starts are =
    ap length are ∙ length-tabulated (length (types_of columns)) (λ j. n * sum (take j (widths long (types_of columns)))) ∙ length-types_of columns

pub start_noted : (long : Bool) (columns : List ColumnDef) (n j : ℕ) (starts : List ℕ) → j < length columns → AreStarts long (types_of columns) n starts
    → slice_get starts j ≡ Some (n * sum (take j (widths long (types_of columns))))
start_noted long columns n j starts l are =
    ap (λ (s : List ℕ). slice_get s j) are ∙ tabulated_at (λ j. n * sum (take j (widths long (types_of columns)))) (length (types_of columns)) j (below_types columns j l)

-- a cell of the rows that are read
pub cell_found : (long : Bool) (columns : List ColumnDef) (bytes : List ℕ) (n i j : ℕ) → i < n → j < length columns
    → cell_in_row j (slice_get (tabulated n (row_in long (types_of columns) bytes)) i) ≡ Some (cell_at long (types_of columns) bytes i j)
cell_found long columns bytes n i j h l =
    let types : List ColumnType = types_of columns in
    ap (cell_in_row j) (tabulated_at (row_in long types bytes) n i h)
    ∙ tabulated_at (cell_at long types bytes i) (length types) j (omega (arith, length-types_of columns, l))

pub cell_missing : (long : Bool) (columns : List ColumnDef) (bytes : List ℕ) (n i j : ℕ) → (n ≤ i) ⊎ ((i < n) × (length columns ≤ j))
    → cell_in_row j (slice_get (tabulated n (row_in long (types_of columns) bytes)) i) ≡ None
cell_missing long columns bytes n i j =
    let types : List ColumnType = types_of columns in
    ⊎_elim
    (λ le. ap (cell_in_row j) (slice_get_past (tabulated n (row_in long types bytes)) i (omega (arith, length-tabulated n (row_in long types bytes), le))))
    (λ w. ap (cell_in_row j) (tabulated_at (row_in long types bytes) n i w.0)
    ∙ slice_get_past (row_in long types bytes i) j (omega (arith, length-tabulated (length types) (cell_at long types bytes i), length-types_of columns, w.1)))
