-- Where the cells of a table stand, and that they stand inside.
use Rattle.std.proofs.Common.{◌≡◌, ℕ, zero, suc, refl, ◌+◌, ◌*◌, ◌<◌, ◌≤◌, Bool, List, [], ◌∷◌, ◌++◌, length, take, drop, sym, ap, ◌∙◌, arith, get_or, map, sum, Some}
use Rattle.std.specs.Prelude.{slice_index_or}
use Rattle.std.proofs.lemmas.List as lists
use Rattle.std.proofs.lemmas.List.FromFn.{map-range_with_len_more}
use Rattle.std.proofs.lemmas.List.Sums.{sum_by_more, sum_by_more_le}
use Rattle.std.proofs.lemmas.Nat.{row_fits}
use Rattle.std.proofs.Math.Nat as nat
use Rattle.msi_base.specs.Lists.{tabulated}
use Rattle.msi_table_values.specs.declared.column.ColumnType.{ColumnType}
use Rattle.msi_table_values.specs.declared.column.ColumnType.TheVariants as coltype
use Rattle.msi_table_cells.specs.declared.cell.ValueRef.{ValueRef}
use Rattle.msi_table_values.specs.Columns.{ColumnDef, types_of}
use Rattle.msi_table_values.proofs.ColumnTypesLemmas.{below_types, length-types_of, type_at}
use Rattle.msi_table.specs.Cells.{width, widths, row_count, cell_in, cell_at}
use Rattle.msi_table.proofs.ReadBackLemmas.{cell_at_is}
use Rattle.std.proofs.lemmas.Option.{slice_get-get_or}
use Rattle.msi_table.proofs.PiecesLemmas.{numbers_from_is}

-- one more element
pub tabulated_more : {X : Type 0} (n : ℕ) (f : ℕ → X) → tabulated (n + 1) f ≡ tabulated n f ++ f n ∷ []
tabulated_more n f = ap (map f) (numbers_from_is 0 (n + 1)) ∙ map-range_with_len_more f 0 n n (omega arith) ∙ ap (λ l. map f l ++ f n ∷ []) (sym (numbers_from_is 0 n))

width_at : (long : Bool) (types : List ColumnType) (j : ℕ) (d : ColumnType) → j < length types → slice_index_or (widths long types) j 0 ≡ width long (slice_index_or types j d)
width_at long types j d h = lists.get_or-map (width long) types j d 0 h

pub sum_widths_more : (long : Bool) (types : List ColumnType) (j : ℕ) (d : ColumnType) → j < length types
    → sum (take (j + 1) (widths long types)) ≡ sum (take j (widths long types)) + width long (slice_index_or types j d)
sum_widths_more long types j d h = sum_by_more (λ (x : ℕ). x) (widths long types) j 0 (omega (arith, lists.length-map types (width long)))
    ∙ ap (λ w. sum (take j (widths long types)) + w) (width_at long types j d h)

sum_widths_within : (long : Bool) (types : List ColumnType) (j : ℕ) (d : ColumnType) → j < length types
    → sum (take j (widths long types)) + width long (slice_index_or types j d) ≤ sum (widths long types)
sum_widths_within long types j d h = omega (arith, width_at long types j d h, sum_by_more_le (λ (x : ℕ). x) (widths long types) j 0 (omega (arith, lists.length-map types (width long))))

-- the columns up to this one take no more than all
columns_within : (long : Bool) (types : List ColumnType) (n j : ℕ) (d : ColumnType) → j < length types
    → n * sum (take j (widths long types)) + n * width long (slice_index_or types j d) ≤ n * sum (widths long types)
columns_within long types n j d h =
    omega (
      arith,
      nat.mul-add n (sum (take j (widths long types))) (width long (slice_index_or types j d)),
      nat.mul-le-mul_left n (sum_widths_within long types j d h),
    )

-- and so no more than all bytes
all_inside : (long : Bool) (types : List ColumnType) (bytes : List ℕ) (n : ℕ) → n ≡ row_count long types bytes → n * sum (widths long types) ≤ length bytes
all_inside long types bytes n e = omega (arith, nat.div-mul-le_self (length bytes) (sum (widths long types)), ap (λ m. m * sum (widths long types)) e)

pub column_inside : (long : Bool) (types : List ColumnType) (bytes : List ℕ) (n j : ℕ) (d : ColumnType) → n ≡ row_count long types bytes → j < length types
    → n * sum (take j (widths long types)) + n * width long (slice_index_or types j d) ≤ length bytes
column_inside long types bytes n j d e h = omega (arith, columns_within long types n j d h, all_inside long types bytes n e)

-- where a column begins, and where it ends
pub start_within : (long : Bool) (columns : List ColumnDef) (n j : ℕ) → j < length columns → n * sum (take j (widths long (types_of columns))) ≤ n * sum (widths long (types_of columns))
start_within long columns n j l = omega (arith, columns_within long (types_of columns) n j coltype.Int16 (below_types columns j l))

pub column_is_inside : (long : Bool) (columns : List ColumnDef) (start n j w : ℕ) (type : ColumnType) (d : ColumnDef) → j < length columns → type ≡ (slice_index_or columns j d).coltype → w ≡ width long type
    → start ≡ n * sum (take j (widths long (types_of columns))) → start + n * w ≤ n * sum (widths long (types_of columns))
column_is_inside long columns start n j w type d l t is s =
    let at = is ∙ ap (width long) (type_at columns j type d l t) in
    omega (arith, s, columns_within long (types_of columns) n j coltype.Int16 (below_types columns j l), ap (λ v. n * v) at)

-- a cell stands inside its column
cell_inside : (n i w : ℕ) → i < n → i * w + w ≤ n * w
cell_inside n i w h = row_fits i w n w h (omega arith)

-- what the loop over the columns of a row needs at one of them
pub record CellInside (bytes : List ℕ) (start n i w : ℕ) : Type 0 where
  pub column : start + n * w ≤ length bytes
  pub cell : i * w + w ≤ n * w

pub cell_is_inside : (long : Bool) (columns : List ColumnDef) (bytes : List ℕ) (start n i j w : ℕ) (type : ColumnType) (d : ColumnDef) → n ≡ row_count long (types_of columns) bytes → i < n → j < length columns
    → type ≡ (slice_index_or columns j d).coltype → w ≡ width long type → start ≡ n * sum (take j (widths long (types_of columns))) → CellInside bytes start n i w
cell_is_inside long columns bytes start n i j w type d e h l t is s =
    let at = is ∙ ap (width long) (type_at columns j type d l t) in
    record {
      column = omega (arith, column_inside long (types_of columns) bytes n j coltype.Int16 e (below_types columns j l), ap (λ v. n * v) at);
      cell = cell_inside n i w h;
    }

-- the sum so far, one column on
pub start_more : (long : Bool) (columns : List ColumnDef) (start n j w : ℕ) (type : ColumnType) (d : ColumnDef) → j < length columns → type ≡ (slice_index_or columns j d).coltype → w ≡ width long type
    → start ≡ n * sum (take j (widths long (types_of columns))) → start + n * w ≡ n * sum (take (j + 1) (widths long (types_of columns)))
start_more long columns start n j w type d l t is s =
    let at = is ∙ ap (width long) (type_at columns j type d l t) in
    omega (
      arith,
      s,
      ap (λ v. n * v) at,
      ap (λ v. n * v) (sum_widths_more long (types_of columns) j coltype.Int16 (below_types columns j l)),
      nat.mul-add n (sum (take j (widths long (types_of columns)))) (width long (slice_index_or (types_of columns) j coltype.Int16)),
    )

-- the same, where it is the width of a row
pub width_more : (long : Bool) (columns : List ColumnDef) (total j w : ℕ) (type : ColumnType) (d : ColumnDef) → j < length columns → type ≡ (slice_index_or columns j d).coltype → w ≡ width long type
    → total ≡ sum (take j (widths long (types_of columns))) → total + w ≡ sum (take (j + 1) (widths long (types_of columns)))
width_more long columns total j w type d l t is s =
    let at = is ∙ ap (width long) (type_at columns j type d l t) in
    omega (arith, s, at, sum_widths_more long (types_of columns) j coltype.Int16 (below_types columns j l))

pub tabulated_push : {X : Type 0} (xs ys : List X) (n : ℕ) (f : ℕ → X) (x : X) → ys ≡ xs ++ x ∷ [] → xs ≡ tabulated n f → x ≡ f n → ys ≡ tabulated (n + 1) f
tabulated_push xs ys n f x e s is = let m = tabulated_more n f in cc

pub mapped_push : {X Y : Type 0} (f : X → Y) (ps : List X) (xs ys : List Y) (n : ℕ) (d : X) (y : Y) → n < length ps → ys ≡ xs ++ y ∷ [] → xs ≡ map f (take n ps) → y ≡ f (get_or ps n d) → ys ≡ map f (take (n + 1) ps)
mapped_push f ps xs ys n d y l e s is = let m = lists.map_more f ps n d l in cc

-- once the columns are all passed, there is one for each type
pub tabulated_done : {X : Type 0} (columns : List ColumnDef) (xs : List X) (n : ℕ) (f : ℕ → X) → xs ≡ tabulated n f → length columns ≤ n → n ≤ length columns → xs ≡ tabulated (length (types_of columns)) f
tabulated_done columns xs n f s past within =
    let all : n ≡ length (types_of columns) = omega (arith, length-types_of columns) in
    s ∙ ap (λ m. tabulated m f) all

-- the widths of the first columns
pub first_widths : (long : Bool) (columns : List ColumnDef) (j : ℕ) → widths long (types_of (take j columns)) ≡ take j (widths long (types_of columns))
first_widths long columns zero = refl
first_widths long [] (suc j) = refl
first_widths long (c ∷ cs) (suc j) = ap (λ ws. width long c.coltype ∷ ws) (first_widths long cs j)

-- what is read at the place of a cell is the cell
pub cell_read : (long : Bool) (columns : List ColumnDef) (bytes : List ℕ) (start n i j w : ℕ) (type : ColumnType) (d : ColumnDef) (x : ValueRef) → n ≡ row_count long (types_of columns) bytes → j < length columns
    → type ≡ (slice_index_or columns j d).coltype → w ≡ width long type → start ≡ n * sum (take j (widths long (types_of columns)))
    → x ≡ cell_in type (take (width long type) (drop (start + i * w) bytes)) → x ≡ cell_at long (types_of columns) bytes i j
cell_read long columns bytes start n i j w type d x e l t is s r =
    r ∙ ap (λ p. cell_in type (take (width long type) (drop p bytes))) (omega (arith, s, ap (λ v. i * v) is))
    ∙ sym (cell_at_is long (types_of columns) bytes n i j type (sym e) (slice_get-get_or (types_of columns) j coltype.Int16 (below_types columns j l) ∙ ap Some (sym (type_at columns j type d l t))))
