-- Rows that are put fit the columns whose values they have.
use Rattle.std.proofs.Common.{◌≡◌, ℕ, ◌+◌, ◌<◌, ◌≤◌, Bool, true, ◌==◌, List, [], ◌∷◌, ◌++◌, length, zip, Option, Some, None, refl, sym, subst, arith, ℤ}
use Rattle.std.specs.Prelude.{⊤, IsSomeAnd, unwrap_or}
use Rattle.std.specs.List.{AllByRecursion, list_all}
use Rattle.std.proofs.lemmas.Bool.{and_parts, true≢false}
use Rattle.std.proofs.lemmas.Bool.Decides.{nat_tests}
use Rattle.std.proofs.lemmas.List.{length-append}
use Rattle.std.proofs.lemmas.List.Sorted.{length_permutation}
use Rattle.std.proofs.lemmas.Option.{same_Some, option_and_then_some}
use Rattle.msi_pool.specs.FirstFit.{most_places, taken}
use Rattle.msi_pool.specs.FirstFitLaws.{TakenPlacesHoldTheirText}
use Rattle.msi_pool.specs.Pool.{Place}
use Rattle.msi_table_values.specs.declared.column.ColumnType.{ColumnType}
use Rattle.msi_table_values.specs.declared.column.ColumnType.TheVariants as coltype
use Rattle.msi_table_values.specs.declared.value.Value.{Value}
use Rattle.msi_table_values.specs.declared.value.Value.TheVariants.{Null, Int, Str, Binary}
use Rattle.msi_table_cells.specs.declared.cell.ValueRef.{ValueRef}
use Rattle.msi_table_cells.specs.declared.cell.ValueRef.TheVariants as cell
use Rattle.msi_table_values.specs.Columns.{ColumnDef, types_of}
use Rattle.msi_table_cells.specs.Fitting.{FitsColumn, FitsRow, FitsTable, reference_bound}
use Rattle.msi_table_cells.specs.StoredOrder.{in_stored_order}
use Rattle.msi_table_values.specs.ValidValues.{fits_type, is_valid_value}
use Rattle.msi_table_cells.proofs.SortedFitsLemmas.{sorted_fits}
use Rattle.msi_table_cells.specs.KeyOrder.{in_key_order, key_cmp}
use Rattle.msi_database_changes.specs.Texts.{PoolInUse, cell_put, in_turn, rows_put}
use Rattle.msi_database_changes.specs.Insert.{row_fits}
use Rattle.msi_base.proofs.ListLemmas.{all_joined}
use Rattle.msi_table_cells.proofs.StoredValuesLemmas.{fits_int, fits_null, fits_stream, below_bound, taken_within}
use Rattle.msi_table_cells.proofs.StableSortLemmas.{sort_moves}
use Rattle.msi_database_changes.proofs.steps.TurnLemmas.{map_some}
use Rattle.msi_database_changes.proofs.describing.KindsKeptLemmas.{all_permuted}

-- a cell of a value's kind, whose number is within the width
abbrev pub CellOf : Bool → Value → ValueRef → Type 0
CellOf long Null cell.Null = ⊤
CellOf long (Int m) (cell.Int n) = m ≡ n
CellOf long (Str text) (cell.Str number) = (0 < number) × (number < reference_bound long)
CellOf long Binary cell.Binary = ⊤
CellOf long _ _ = ⊥

pub fits_text : (long : Bool) (type : ColumnType) (text : List ℕ) (number : ℕ) → fits_type type (Str text) ≡ true → CellOf long (Str text) (cell.Str number) → FitsColumn long type (cell.Str number)
fits_text long coltype.Int16 text number e h = absurd (true≢false (sym e))
fits_text long coltype.Int32 text number e h = absurd (true≢false (sym e))
fits_text long (coltype.Str k) text number e h = h
fits_text long coltype.Binary text number e h = absurd (true≢false (sym e))

pub fits_cell : (long : Bool) (c : ColumnDef) (v : Value) (x : ValueRef) → is_valid_value c v ≡ true → CellOf long v x → FitsColumn long c.coltype x
fits_cell long c Null cell.Null e h = fits_null long c.coltype (and_parts c.is_nullable _ e).1
fits_cell long c Null (cell.Int n) e h = absurd h
fits_cell long c Null (cell.Str n) e h = absurd h
fits_cell long c Null cell.Binary e h = absurd h
fits_cell long c (Int m) cell.Null e h = absurd h
fits_cell long c (Int m) (cell.Int n) e h = subst (λ (n : ℤ). FitsColumn long c.coltype (cell.Int n)) h (fits_int long c.coltype m (and_parts (fits_type c.coltype (Int m)) _ e).0)
fits_cell long c (Int m) (cell.Str n) e h = absurd h
fits_cell long c (Int m) cell.Binary e h = absurd h
fits_cell long c (Str text) cell.Null e h = absurd h
fits_cell long c (Str text) (cell.Int n) e h = absurd h
fits_cell long c (Str text) (cell.Str n) e h = fits_text long c.coltype text n (and_parts (fits_type c.coltype (Str text)) _ (and_parts _ _ e).0).0 h
fits_cell long c (Str text) cell.Binary e h = absurd h
fits_cell long c Binary cell.Null e h = absurd h
fits_cell long c Binary (cell.Int n) e h = absurd h
fits_cell long c Binary (cell.Str n) e h = absurd h
fits_cell long c Binary cell.Binary e h = fits_stream long c.coltype e

-- two lists, one of the other's items
abbrev pub Both : {X Y : Type 0} → (X → Y → Type 0) → List X → List Y → Type 0
Both P [] [] = ⊤
Both P [] (y ∷ ys) = ⊥
Both P (x ∷ xs) [] = ⊥
Both P (x ∷ xs) (y ∷ ys) = P x y × Both P xs ys

pub as_many : {X Y : Type 0} (P : X → Y → Type 0) (xs : List X) (ys : List Y) → Both P xs ys → length ys ≡ length xs
as_many P [] [] h = refl
as_many P [] (y ∷ ys) h = absurd h
as_many P (x ∷ xs) [] h = absurd h
as_many P (x ∷ xs) (y ∷ ys) h = omega (arith, as_many P xs ys h.1)

fits_row : (long : Bool) (columns : List ColumnDef) (row : List Value) (cells : List ValueRef) → length row ≡ length columns → list_all (λ e. is_valid_value e.0 e.1) (zip columns row) ≡ true → Both (CellOf long) row cells
    → FitsRow long (types_of columns) cells
fits_row long [] [] [] same e h = tt
fits_row long [] [] (x ∷ xs) same e h = absurd h
fits_row long [] (v ∷ vs) cells same e h = absurd (omega (arith, same))
fits_row long (c ∷ cs) [] cells same e h = absurd (omega (arith, same))
fits_row long (c ∷ cs) (v ∷ vs) [] same e h = absurd h
fits_row long (c ∷ cs) (v ∷ vs) (x ∷ xs) same e h =
    let p = and_parts (is_valid_value c v) (list_all (λ e. is_valid_value e.0 e.1) (zip cs vs)) e in
    (fits_cell long c v x p.0 h.0, fits_row long cs vs xs (omega (arith, same)) p.1 h.1)

pub rows_all_fit : (long : Bool) (columns : List ColumnDef) (values : List (List Value)) (rows : List (List ValueRef)) → list_all (row_fits columns) values ≡ true → Both (Both (CellOf long)) values rows
    → AllByRecursion (FitsRow long (types_of columns)) rows
rows_all_fit long columns [] [] e h = tt
rows_all_fit long columns [] (r ∷ rs) e h = absurd h
rows_all_fit long columns (v ∷ vs) [] e h = absurd h
rows_all_fit long columns (v ∷ vs) (r ∷ rs) e h =
    let p = and_parts (row_fits columns v) (list_all (row_fits columns) vs) e in
    let q = and_parts (length v == length columns) (list_all (λ e. is_valid_value e.0 e.1) (zip columns v)) p.0 in
    let same : length v ≡ length columns = grind (arith, nat_tests, q) in
    (fits_row long columns v r same q.1 h.0, rows_all_fit long columns vs rs p.1 h.1)

-- what each step gives
turn_both : {X Y : Type 0} (P : X → Y → Type 0) (most : ℕ) (step : PoolInUse → X → Option (Y × PoolInUse))
    → ((s : PoolInUse) (x : X) (r : Y × PoolInUse) → length s.places ≤ most → step s x ≡ Some r → P x r.0 × (length r.1.places ≤ most))
    → (s : PoolInUse) (xs : List X) (r : List Y × PoolInUse) → length s.places ≤ most → in_turn step s xs ≡ Some r → Both P xs r.0 × (length r.1.places ≤ most)
turn_both P most step each s [] r w e = subst (λ r. Both P [] r.0 × (length r.1.places ≤ most)) (same_Some ([], s) r e) (tt, w)
turn_both P most step each s (x ∷ xs) r w e = option_and_then_some _ (step s x) r e
    (λ b b_is rest. map_some _ (in_turn step b.1 xs) r rest
    (λ c c_is whole.
    let first = each s x b w b_is in
    let later = turn_both P most step each b.1 xs c first.1 c_is in
    subst (λ r. Both P (x ∷ xs) r.0 × (length r.1.places ≤ most)) whole ((first.0, later.0), later.1)))

module _ (takes : TakenPlacesHoldTheirText) (long : Bool) where
  pub put_of : (s : PoolInUse) (v : Value) (r : ValueRef × PoolInUse) → length s.places ≤ most_places long → cell_put long s v ≡ Some r → CellOf long v r.0 × (length r.1.places ≤ most_places long)
  put_of s (Str text) r w e = map_some _ (taken long s.places text) r e
      (λ x x_is whole.
      let t = takes long s.places x.1 text x.0 x_is in
      let within = taken_within long s.places x.1 text x.0 x_is w in
      subst (λ (r : ValueRef × PoolInUse). CellOf long (Str text) r.0 × (length r.1.places ≤ most_places long)) whole ((t.from_one, below_bound long x.0 within), omega (arith, t.many, w, within)))
  put_of s Null r w e = subst (λ (r : ValueRef × PoolInUse). CellOf long Null r.0 × (length r.1.places ≤ most_places long)) (same_Some _ r e) (tt, w)
  put_of s (Int n) r w e = subst (λ (r : ValueRef × PoolInUse). CellOf long (Int n) r.0 × (length r.1.places ≤ most_places long)) (same_Some _ r e) (refl, w)
  put_of s Binary r w e = subst (λ (r : ValueRef × PoolInUse). CellOf long Binary r.0 × (length r.1.places ≤ most_places long)) (same_Some _ r e) (tt, w)

  pub rows_put_of : (s : PoolInUse) (rows : List (List Value)) (r : List (List ValueRef) × PoolInUse) → length s.places ≤ most_places long → rows_put long s rows ≡ Some r → Both (Both (CellOf long)) rows r.0
  rows_put_of s rows r w e = (turn_both (Both (CellOf long)) (most_places long) (in_turn (cell_put long)) (turn_both (CellOf long) (most_places long) (cell_put long) put_of) s rows r w e).0

-- rows beside those that were there
pub joined_fit : (columns : List ColumnDef) (long : Bool) (places : List Place) (o : Option (List (List ValueRef))) (new : List (List ValueRef)) → IsSomeAnd o (FitsTable long (types_of columns))
    → length (unwrap_or o []) + length new ≤ 65536 → AllByRecursion (FitsRow long (types_of columns)) new
    → FitsTable long (types_of columns) (in_stored_order columns (in_key_order columns places (unwrap_or o [] ++ new)))
joined_fit columns long places None new f few all = absurd f
joined_fit columns long places (Some rows) new f few all =
    let moves = sort_moves (key_cmp columns places) (rows ++ new) in
    sorted_fits columns long (types_of columns) (in_key_order columns places (rows ++ new)) (record {
      some_column = f.some_column;
      few_rows = let e = length_permutation (rows ++ new) (in_key_order columns places (rows ++ new)) moves in let j : length (rows ++ new) ≡ length rows + length new = length-append rows new in omega (arith, e, j, few);
      each_row = all_permuted (FitsRow long (types_of columns)) (rows ++ new) (in_key_order columns places (rows ++ new)) moves (all_joined (FitsRow long (types_of columns)) rows new f.each_row all);
    })
