-- A record's cells, and their values: the key, the columns that change, and the row that is added.
use Rattle.std.proofs.Common.{◌≡◌, ℕ, zero, suc, ◌+◌, ◌-◌, ◌≤◌, Bool, true, false, not, ◌&&◌, ◌||◌, List, [], ◌∷◌, ◌++◌, length, map, filter, set, zip, replicate, Option, Some, None, refl, sym, ap, ◌∙◌, arith}
use Rattle.std.specs.Prelude.{if◌then◌else◌, nat_lt, slice_get, unwrap_or}
use Rattle.std.specs.List.{AllByRecursion, list_any}
use Rattle.std.proofs.lemmas.Bool.{le-ltb, ltb-false}
use Rattle.msi_base.specs.Lists.{numbers_from}
use Rattle.msi_base.proofs.BoolLemmas.{by_test, yes_is_no}
use Rattle.msi_base.proofs.OptionLemmas.{none_is, some_is}
use Rattle.msi_table_cells.specs.declared.cell.ValueRef.{ValueRef}
use Rattle.msi_table_cells.specs.declared.cell.ValueRef.TheVariants as cell
use Rattle.msi_table_cells.specs.Fitting.{cell_of}
use Rattle.msi_table_values.specs.declared.value.Value.{Value}
use Rattle.msi_table_values.specs.declared.value.Value.TheVariants.{Null, Int, Str, Binary}
use Rattle.msi_table_values.specs.declared.column.ColumnType.{ColumnType}
use Rattle.msi_table_values.specs.declared.column.ColumnType.TheVariants as coltype
use Rattle.msi_table_values.specs.Columns.{ColumnDef, types_of}
use Rattle.msi_transform_records.specs.declared.action.Action.{Action}
use Rattle.msi_transform_records.specs.declared.action.Action.TheVariants.{Add}
use Rattle.msi_transform_records.specs.declared.shape.Shape.{Shape}
use Rattle.msi_transform_records.specs.Actions.{tells, told_from}
use Rattle.msi_transform_records.specs.RecordCells.{changes_of}
use Rattle.msi_transform_records.specs.RecordCells as cells
use Rattle.msi_transform.specs.Transforms.{TransformDef, shapes_of, value_in}
use Rattle.msi_transform_rows.specs.RowChanges.{held_in}
use Rattle.msi_transform_rows.specs.RowStreams.{has_streams, is_of_streams, is_stream, told_beside, told_by_changes, told_stream, type_in}
use Rattle.msi_transform_rows.specs.declared.row.RowStream.{RowStream}
use Rattle.msi_transform_rows.specs.declared.row.RowStream.TheVariants.{Gone, Brought}
use Rattle.msi_transform_laws.specs.CarriedOut.{is_change_of_streams, is_key_of_streams, is_of_key}
use Rattle.msi_transform_laws.specs.RowsApplied.{is_binary, is_brought, texts_in, values_held}

-- COLUMNS AND CELLS, OR VALUES, BESIDE THEM

abbrev pub Column : Type 0
Column = ℕ × Shape

abbrev pub with_seen : TransformDef → Column × ValueRef → Column × Value
with_seen t e = (e.0, value_in t e.1)

-- a column stands at its number, and none of the key is one of streams
abbrev pub IsColumnOf : List ColumnDef → Column → Type 0
IsColumnOf columns c = (slice_get (types_of columns) c.0 ≡ Some c.1.coltype) × ((c.1.is_key && is_of_streams c.1.coltype) ≡ false)

neither : (a b : Bool) → (a || b) ≡ false → (a ≡ false) × (b ≡ false)
neither true b h = yes_is_no true refl h
neither false b h = (refl, h)

module _ (columns : List ColumnDef) (action : Action) where
  columns_from : (n : ℕ) (cs : List ColumnDef) → list_any is_key_of_streams cs ≡ false → ((k : ℕ) → slice_get (types_of cs) k ≡ slice_get (types_of columns) (n + k))
      → AllByRecursion (IsColumnOf columns) (told_from n (shapes_of cs) action)
  columns_from n [] plain at = tt
  columns_from n (c ∷ cs) plain at =
      let p = neither (c.is_primary_key && is_of_streams c.coltype) (list_any is_key_of_streams cs) plain in
      let here : slice_get (types_of columns) n ≡ Some c.coltype = let none : n ≡ n + 0 = omega arith in ap (slice_get (types_of columns)) none ∙ sym (at 0) in
      let rest = columns_from (n + 1) cs p.1 (λ k. at (suc k) ∙ (let next : n + suc k ≡ n + 1 + k = omega arith in ap (slice_get (types_of columns)) next)) in
      by_test (tells action n (record { coltype = c.coltype; is_key = c.is_primary_key }))
      (λ t. rw t ((here, p.0), rest))
      (λ t. rw t rest)

  pub told_columns : list_any is_key_of_streams columns ≡ false → AllByRecursion (IsColumnOf columns) (told_from 0 (shapes_of columns) action)
  told_columns plain = columns_from 0 columns plain (λ k. let none : k ≡ 0 + k = omega arith in ap (slice_get (types_of columns)) none)

abbrev pub AreColumnsOf : List ColumnDef → List (Column × ValueRef) → Type 0
AreColumnsOf columns es = AllByRecursion (λ (e : Column × ValueRef). IsColumnOf columns e.0) es

pub columns_beside : (columns : List ColumnDef) (cs : List Column) (vs : List ValueRef) → AllByRecursion (IsColumnOf columns) cs → AreColumnsOf columns (zip cs vs)
columns_beside columns [] vs h = tt
columns_beside columns (c ∷ cs) [] h = tt
columns_beside columns (c ∷ cs) (v ∷ vs) h = (h.0, columns_beside columns cs vs h.1)

module _ (t : TransformDef) where
  pub seen_beside : (cs : List Column) (vs : List ValueRef) → map (with_seen t) (zip cs vs) ≡ zip cs (map (value_in t) vs)
  seen_beside [] vs = refl
  seen_beside (c ∷ cs) [] = refl
  seen_beside (c ∷ cs) (v ∷ vs) = ap (λ (l : List (Column × Value)). (c, value_in t v) ∷ l) (seen_beside cs vs)

  -- the key
  pub key_seen : (es : List (Column × ValueRef)) → map (value_in t) (cells.key_of es) ≡ map (λ e. e.1) (filter is_of_key (map (with_seen t) es))
  key_seen [] = refl
  key_seen (e ∷ es) = by_test e.0.1.is_key (λ k. rw k (ap (λ (l : List Value). value_in t e.1 ∷ l) (key_seen es))) (λ k. rw k (key_seen es))

  -- STREAMS

  stream_seen : (c : ValueRef) → is_stream c ≡ is_binary (value_in t c)
  stream_seen cell.Null = refl
  stream_seen (cell.Int n) = refl
  stream_seen (cell.Str number) = refl
  stream_seen cell.Binary = refl

  -- what is said of a stream where columns of streams are named, and one of them has a stream
  abbrev pub said_if : Bool → Bool → Option RowStream
  said_if named brings = if named then Some (if brings then Brought else Gone) else None

  beside_streams : (streams binary named brings : Bool) → (named ≡ false → brings ≡ false)
      → (if streams then Some (if binary then Brought else unwrap_or (said_if named brings) Gone) else said_if named brings) ≡ said_if (streams || named) ((streams && binary) || brings)
  beside_streams true true named brings only = refl
  beside_streams true false true true only = refl
  beside_streams true false true false only = refl
  beside_streams true false false true only = yes_is_no true refl (only refl)
  beside_streams true false false false only = refl
  beside_streams false binary named brings only = refl

  abbrev others_seen : List (Column × ValueRef) → List (Column × Value)
  others_seen es = filter (λ e. not (is_of_key e)) (map (with_seen t) es)

  no_streams : (es : List (Column × ValueRef)) → list_any is_change_of_streams (others_seen es) ≡ false → list_any is_brought (others_seen es) ≡ false
  no_streams [] h = refl
  no_streams (e ∷ es) h = by_test e.0.1.is_key
      (λ k. rw k (no_streams es (rw k at h)))
      (λ k. let p = neither (is_of_streams e.0.1.coltype) (list_any is_change_of_streams (others_seen es)) (rw k at h) in rw (k, p.0) (no_streams es p.1))

  pub changes_say : (columns : List ColumnDef) (es : List (Column × ValueRef)) → AreColumnsOf columns es
      → told_by_changes columns (changes_of es) ≡ said_if (list_any is_change_of_streams (others_seen es)) (list_any is_brought (others_seen es))
  changes_say columns [] h = refl
  changes_say columns (e ∷ es) h =
      let rest = changes_say columns es h.1 in
      let type : type_in columns e.0.0 ≡ e.0.1.coltype = ap (λ (o : Option ColumnType). unwrap_or o coltype.Int16) h.0.0 in
      by_test e.0.1.is_key
      (λ k. rw k rest)
      (λ k. rw k ((λ i. told_beside (rest i) (type i, e.1))
      ∙ ap (λ b. if is_of_streams e.0.1.coltype then Some (if b then Brought else unwrap_or (said_if (list_any is_change_of_streams (others_seen es)) (list_any is_brought (others_seen es))) Gone) else said_if (list_any is_change_of_streams (others_seen es)) (list_any is_brought (others_seen es))) (stream_seen e.1)
      ∙ beside_streams (is_of_streams e.0.1.coltype) (is_binary (value_in t e.1)) (list_any is_change_of_streams (others_seen es)) (list_any is_brought (others_seen es)) (no_streams es)))

  no_key : (key streams binary : Bool) → (key && streams) ≡ false → key ≡ true → (streams && binary) ≡ false
  no_key true streams binary h k = rw h refl
  no_key false streams binary h k = yes_is_no false k refl

  -- since the key has none, the other columns bring one or none does
  pub brought_beside_key : (columns : List ColumnDef) (es : List (Column × ValueRef)) → AreColumnsOf columns es → list_any is_brought (map (with_seen t) es) ≡ list_any is_brought (others_seen es)
  brought_beside_key columns [] h = refl
  brought_beside_key columns (e ∷ es) h = by_test e.0.1.is_key
      (λ k. rw (k, no_key e.0.1.is_key (is_of_streams e.0.1.coltype) (is_binary (value_in t e.1)) h.0.1 k) (brought_beside_key columns es h.1))
      (λ k. rw k (ap (λ b. is_brought (with_seen t e) || b) (brought_beside_key columns es h.1)))

-- VALUES IN A ROW

pub set_stream : (columns : List ColumnDef) (values : List Value) (i : ℕ) (type : ColumnType) (w : Value) → slice_get (types_of columns) i ≡ Some type → is_of_streams type ≡ true
    → values_held columns (set values i w) ≡ values_held columns values
set_stream [] values i type w at s = none_is at
set_stream (c ∷ cs) [] i type w at s = refl
set_stream (c ∷ cs) (v ∷ vs) zero type w at s = let of : is_of_streams c.coltype ≡ true = ap is_of_streams (some_is c.coltype type at) ∙ s in rw of refl
set_stream (c ∷ cs) (v ∷ vs) (suc i) type w at s = ap (λ (l : List Value). held_in (c, v) ∷ l) (set_stream cs vs i type w at s)

pub set_other : (columns : List ColumnDef) (values : List Value) (i : ℕ) (type : ColumnType) (w : Value) → slice_get (types_of columns) i ≡ Some type → is_of_streams type ≡ false
    → values_held columns (set values i w) ≡ set (values_held columns values) i w
set_other [] values i type w at s = none_is at
set_other (c ∷ cs) [] i type w at s = refl
set_other (c ∷ cs) (v ∷ vs) zero type w at s = let of : is_of_streams c.coltype ≡ false = ap is_of_streams (some_is c.coltype type at) ∙ s in rw of refl
set_other (c ∷ cs) (v ∷ vs) (suc i) type w at s = ap (λ (l : List Value). held_in (c, v) ∷ l) (set_other cs vs i type w at s)

-- A ROW THAT IS ADDED

-- a cell for each column, null behind those that there are
abbrev pub padded : List ColumnDef → List ValueRef → List ValueRef
padded [] cs = []
padded (c ∷ columns) [] = cell.Null ∷ padded columns []
padded (c ∷ columns) (x ∷ xs) = x ∷ padded columns xs

padded_from : (row : List ValueRef) (columns : List ColumnDef) (rest : List ValueRef) (i : ℕ) → ((j : ℕ) → slice_get rest j ≡ slice_get row (i + j))
    → map (cell_of row) (numbers_from i (length columns)) ≡ padded columns rest
padded_from row [] rest i at = refl
padded_from row (c ∷ columns) [] i at =
    let here : cell_of row i ≡ cell.Null = let none : i ≡ i + 0 = omega arith in ap (cell_of row) none ∙ ap (λ (o : Option ValueRef). unwrap_or o cell.Null) (sym (at 0)) in
    let others = padded_from row columns [] (i + 1) (λ j. at (suc j) ∙ (let next : i + suc j ≡ i + 1 + j = omega arith in ap (slice_get row) next)) in
    λ k. here k ∷ others k
padded_from row (c ∷ columns) (x ∷ xs) i at =
    let here : cell_of row i ≡ x = let none : i ≡ i + 0 = omega arith in ap (cell_of row) none ∙ ap (λ (o : Option ValueRef). unwrap_or o cell.Null) (sym (at 0)) in
    let others = padded_from row columns xs (i + 1) (λ j. at (suc j) ∙ (let next : i + suc j ≡ i + 1 + j = omega arith in ap (slice_get row) next)) in
    λ k. here k ∷ others k

many_shapes : (columns : List ColumnDef) → length (shapes_of columns) ≡ length columns
many_shapes [] = refl
many_shapes (c ∷ columns) = ap suc (many_shapes columns)

pub padded_cells : (columns : List ColumnDef) (row : List ValueRef) → map (cell_of row) (numbers_from 0 (length (shapes_of columns))) ≡ padded columns row
padded_cells columns row =
    ap (λ (n : ℕ). map (cell_of row) (numbers_from 0 n)) (many_shapes columns)
    ∙ padded_from row columns row 0 (λ j. let none : j ≡ 0 + j = omega arith in ap (slice_get row) none)

module _ (t : TransformDef) where
  pub padded_values : (columns : List ColumnDef) (row : List ValueRef)
      → values_held columns (map (value_in t) (padded columns row)) ≡ values_held columns (map (value_in t) row ++ replicate (length columns - length (map (value_in t) row)) Null)
  padded_values [] row = refl
  padded_values (c ∷ columns) [] = ap (λ (l : List Value). held_in (c, Null) ∷ l) (padded_values columns [] ∙ (let less : length columns - 0 ≡ length columns = omega arith in ap (λ (n : ℕ). values_held columns (replicate n Null)) less))
      ∙ (let more : suc (length columns) - 0 ≡ suc (length columns) = omega arith in ap (λ (n : ℕ). values_held (c ∷ columns) (replicate n Null)) (sym more))
  padded_values (c ∷ columns) (x ∷ xs) = ap (λ (l : List Value). held_in (c, value_in t x) ∷ l) (padded_values columns xs
      ∙ (let same : length columns - length (map (value_in t) xs) ≡ suc (length columns) - suc (length (map (value_in t) xs)) = omega arith in ap (λ (n : ℕ). values_held columns (map (value_in t) xs ++ replicate n Null)) same))

  -- the columns behind those that are added have null
  none_named : (k n : ℕ) (shapes : List Shape) → k ≤ n → told_from n shapes (Add k) ≡ []
  none_named k n [] h = refl
  none_named k n (s ∷ shapes) h = rw (le-ltb n k h) (none_named k (n + 1) shapes (omega arith))

  nulls_say : (columns : List ColumnDef) → told_stream (zip (types_of columns) (padded columns [])) ≡ said_if t (has_streams columns) false
  nulls_say [] = refl
  nulls_say (c ∷ columns) = by_test (is_of_streams c.coltype)
      (λ s. rw (s, nulls_say columns) (by_test (has_streams columns) (λ h. rw h refl) (λ h. rw h refl)))
      (λ s. rw s (nulls_say columns))

  no_streams_at_all : (k n : ℕ) (columns : List ColumnDef) (row : List ValueRef) → has_streams columns ≡ false → list_any is_brought (zip (told_from n (shapes_of columns) (Add k)) (map (value_in t) row)) ≡ false
  no_streams_at_all k n [] row h = refl
  no_streams_at_all k n (c ∷ columns) [] h = by_test (nat_lt n k) (λ b. rw b refl) (λ b. rw b (no_streams_at_all k (n + 1) columns [] (neither (is_of_streams c.coltype) (has_streams columns) h).1))
  no_streams_at_all k n (c ∷ columns) (x ∷ xs) h =
      let p = neither (is_of_streams c.coltype) (has_streams columns) h in
      by_test (nat_lt n k)
      (λ b. rw (b, p.0) (no_streams_at_all k (n + 1) columns xs p.1))
      (λ b. rw b (no_streams_at_all k (n + 1) columns (x ∷ xs) p.1))

  no_pairs : (cs : List Column) → list_any is_brought (zip cs []) ≡ false
  no_pairs [] = refl
  no_pairs (c ∷ cs) = refl

  row_says_from : (k n : ℕ) (columns : List ColumnDef) (row : List ValueRef) → length row ≡ length (told_from n (shapes_of columns) (Add k))
      → told_stream (zip (types_of columns) (padded columns row)) ≡ said_if t (has_streams columns) (list_any is_brought (zip (told_from n (shapes_of columns) (Add k)) (map (value_in t) row)))
  row_says_from k n [] row h = refl
  row_says_from k n (c ∷ columns) [] h = nulls_say (c ∷ columns) ∙ ap (said_if t (has_streams (c ∷ columns))) (sym (no_pairs (told_from n (shapes_of (c ∷ columns)) (Add k))))
  row_says_from k n (c ∷ columns) (x ∷ xs) h = by_test (nat_lt n k)
      (λ b. let fewer : length xs ≡ length (told_from (n + 1) (shapes_of columns) (Add k)) = (let whole : suc (length xs) ≡ suc (length (told_from (n + 1) (shapes_of columns) (Add k))) = rw b at h in omega (arith, whole)) in
      let brings = list_any is_brought (zip (told_from (n + 1) (shapes_of columns) (Add k)) (map (value_in t) xs)) in
      rw b (ap (λ (o : Option RowStream). told_beside o (c.coltype, x)) (row_says_from k (n + 1) columns xs fewer)
      ∙ ap (λ s. if is_of_streams c.coltype then Some (if s then Brought else unwrap_or (said_if t (has_streams columns) brings) Gone) else said_if t (has_streams columns) brings) (stream_seen t x)
      ∙ beside_streams t (is_of_streams c.coltype) (is_binary (value_in t x)) (has_streams columns) brings (no_streams_at_all k (n + 1) columns xs)))
      (λ b. let none : told_from (n + 1) (shapes_of columns) (Add k) ≡ [] = none_named k (n + 1) (shapes_of columns) (let past : k ≤ n = ltb-false n k b in omega (arith, past)) in
      let whole : suc (length xs) ≡ length (told_from (n + 1) (shapes_of columns) (Add k)) = rw b at h in
      absurd (omega (arith, whole, ap (λ (l : List Column). length l) none)))

  pub row_says : (k : ℕ) (columns : List ColumnDef) (row : List ValueRef) → length row ≡ length (told_from 0 (shapes_of columns) (Add k))
      → told_stream (zip (types_of columns) (padded columns row)) ≡ said_if t (has_streams columns) (list_any is_brought (zip (told_from 0 (shapes_of columns) (Add k)) (map (value_in t) row)))
  row_says k columns row h = row_says_from k 0 columns row h

-- TEXTS

one_more : (v : Value) (vs : List Value) (n : ℕ) → n ≤ texts_in vs → n ≤ texts_in (v ∷ vs)
one_more Null vs n h = h
one_more (Int i) vs n h = h
one_more (Str text) vs n h = omega (arith, h)
one_more Binary vs n h = h

one_alike : (v : Value) (us vs : List Value) → texts_in us ≤ texts_in vs → texts_in (v ∷ us) ≤ texts_in (v ∷ vs)
one_alike Null us vs h = h
one_alike (Int i) us vs h = h
one_alike (Str text) us vs h = omega (arith, h)
one_alike Binary us vs h = h

pub texts_held : (columns : List ColumnDef) (values : List Value) → texts_in (values_held columns values) ≤ texts_in values
texts_held [] vs = omega arith
texts_held (c ∷ cs) [] = omega arith
texts_held (c ∷ cs) (v ∷ vs) = by_test (is_of_streams c.coltype)
    (λ s. rw s (one_more v vs (texts_in (values_held cs vs)) (texts_held cs vs)))
    (λ s. rw s (one_alike v (values_held cs vs) vs (texts_held cs vs)))

pub texts_with_nulls : (values : List Value) (n : ℕ) → texts_in (values ++ replicate n Null) ≡ texts_in values
texts_with_nulls [] zero = refl
texts_with_nulls [] (suc n) = texts_with_nulls [] n
texts_with_nulls (Null ∷ vs) n = texts_with_nulls vs n
texts_with_nulls (Int i ∷ vs) n = texts_with_nulls vs n
texts_with_nulls (Str text ∷ vs) n = omega (arith, texts_with_nulls vs n)
texts_with_nulls (Binary ∷ vs) n = texts_with_nulls vs n

abbrev pub seen_texts : TransformDef → List (Column × ValueRef) → ℕ
seen_texts t es = texts_in (map (λ (e : Column × ValueRef). value_in t e.1) es)

texts_first : (v : Value) (vs : List Value) → texts_in (v ∷ vs) ≡ texts_in (v ∷ []) + texts_in vs
texts_first Null vs = omega arith
texts_first (Int n) vs = omega arith
texts_first (Str text) vs = omega arith
texts_first Binary vs = omega arith

pub texts_in_front : (t : TransformDef) (e : Column × ValueRef) (es : List (Column × ValueRef)) → seen_texts t (e ∷ es) ≡ texts_in (value_in t e.1 ∷ []) + seen_texts t es
texts_in_front t e es = texts_first (value_in t e.1) (map (λ (e : Column × ValueRef). value_in t e.1) es)

pub texts_beside : (t : TransformDef) (cs : List Column) (vs : List ValueRef) → seen_texts t (zip cs vs) ≤ texts_in (map (value_in t) vs)
texts_beside t [] vs = omega arith
texts_beside t (c ∷ cs) [] = omega arith
texts_beside t (c ∷ cs) (v ∷ vs) = one_alike (value_in t v) (map (λ (e : Column × ValueRef). value_in t e.1) (zip cs vs)) (map (value_in t) vs) (texts_beside t cs vs)
