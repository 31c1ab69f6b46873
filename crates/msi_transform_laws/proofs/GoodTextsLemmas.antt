-- Values and rows all of whose texts pass a test, and places whose text doesn't, which no cell of such rows names.
use Rattle.std.proofs.Common.{◌≡◌, ℕ, zero, suc, ◌+◌, ◌<◌, Bool, true, false, ◌||◌, T, List, [], ◌∷◌, ◌++◌, length, map, replicate, refl, sym, ap, subst, ◌∙◌, arith}
use Rattle.std.specs.Prelude.{Option, Some, None, is_some}
use Rattle.std.specs.Cmp.{IsTotalOrder, eq_by_cmp_equiv, tied_itself}
use Rattle.std.specs.FinMap.{find, is_sorted, put}
use Rattle.std.specs.FinMap.Entries.{below_all, by_order, find-put}
use Rattle.std.specs.List.{AllByRecursion, list_any}
use Rattle.std.specs.Ordering.{eq_by_cmp, is_lt}
use Rattle.std.specs.declared.cmp.Ordering.{Ordering}
use Rattle.std.specs.declared.cmp.Ordering.TheVariants.{Less, Equal, Greater}
use Rattle.std.proofs.lemmas.List.{length-map}
use Rattle.msi_base.specs.Lists.{has_pair}
use Rattle.msi_base.proofs.BoolLemmas.{T_parts, by_test, yes_is_no}
use Rattle.msi_base.proofs.ListLemmas.{same_head, same_tail}
use Rattle.msi_base.proofs.OptionLemmas.{none_is, some_is}
use Rattle.msi_pool.specs.Pool.{Place}
use Rattle.msi_pool.specs.FirstFitLaws.{text_at}
use Rattle.msi_table_cells.specs.declared.cell.ValueRef.{ValueRef}
use Rattle.msi_table_cells.specs.declared.cell.ValueRef.TheVariants as cell
use Rattle.msi_table_cells.specs.CellValues.{row_values, value_of_cell}
use Rattle.msi_table_cells.specs.KeyOrder.{same_key}
use Rattle.msi_table_cells.proofs.StoredValuesLemmas.{by_number, once_other, once_same}
use Rattle.msi_table_values.specs.declared.value.Value.{Value}
use Rattle.msi_table_values.specs.declared.value.Value.TheVariants.{Null, Int, Str, Binary}
use Rattle.msi_table_values.specs.Columns.{ColumnDef}
use Rattle.msi_database_schema.proofs.AccountLemmas.{Uses, room}
use Rattle.msi_database_changes.specs.KeySets.{keys_of_rows}
use Rattle.msi_database_changes.proofs.text_counts.RowsLemmas.{row_uses, rows_uses}
use Rattle.msi_database_storage.specs.Kept.{Kept}
use Rattle.msi_database_storage.specs.Streams.{Streams}
use Rattle.msi_transform_rows.specs.KeyOfRows.{key_cmp}
use Rattle.msi_transform_rows.specs.RowChanges.{Rows, TableChange, cells_of, held_in}
use Rattle.msi_transform_rows.specs.RowStreams.{is_of_streams}
use Rattle.msi_transform_rows.specs.declared.row.RowInHand.{RowInHand}
use Rattle.msi_transform_schema.specs.SchemaApplying.{system_rows}
use Rattle.msi_transform_making.specs.Making.{ToldRow, ToldRows, by_keys, columns_in_table, told_row, told_rows, told_value, told_values}
use Rattle.msi_transform_laws.specs.RowsApplied.{AreAlike, HaveValuesOf, values_held}
use Rattle.msi_transform_laws.proofs.CarriedOutLemmas.{keys_total, less}

neither : (a b : Bool) → (a || b) ≡ false → (a ≡ false) × (b ≡ false)
neither true b h = yes_is_no true refl h
neither false b h = (refl, h)

-- ENTRIES UNDER THEIR KEYS

module _ {K X : Type 0} (R : K → K → Ordering) (total : IsTotalOrder R) where
  found_behind : (e : K × X) (all es : List (K × X)) → T (below_all R e.0 es) → AllByRecursion (λ (f : K × X). find R f.0 all ≡ Some f.1) es
      → AllByRecursion (λ (f : K × X). find R f.0 (e ∷ all) ≡ Some f.1) es
  found_behind e all [] below h = tt
  found_behind e all (f ∷ fs) below h =
      let q = T_parts (is_lt (R e.0 f.0)) (below_all R e.0 fs) below in
      let apart : eq_by_cmp R f.0 e.0 ≡ false = (eq_by_cmp_equiv total).symm f.0 e.0 ∙ less (R e.0 f.0) q.0 in
      (rw apart h.0, found_behind e all fs q.1 h.1)

  pub each_found : (es : List (K × X)) → T (is_sorted R es) → AllByRecursion (λ (e : K × X). find R e.0 es ≡ Some e.1) es
  each_found [] h = tt
  each_found (e ∷ es) h =
      let q = T_parts (below_all R e.0 es) (is_sorted R es) h in
      (rw (tied_itself total e.0) refl, found_behind e es es q.0 (each_found es q.1))

  -- what holds of all entries holds of the one that is found
  pub at_found : (P : X → Type 0) (k : K) (x : X) (es : List (K × X)) → find R k es ≡ Some x → AllByRecursion (λ (e : K × X). P e.1) es → P x
  at_found P k x [] found h = none_is found
  at_found P k x (e ∷ es) found h = by_test (eq_by_cmp R k e.0)
      (λ t. subst P (some_is e.1 x (rw t at found)) h.0)
      (λ t. at_found P k x es (rw t at found) h.1)

-- rows told under keys of their own
told_behind : (e : List Value × ToldRow) (all es : ToldRows) → list_any (same_key e.0) (map (λ (f : List Value × ToldRow). f.0) es) ≡ false
    → AllByRecursion (λ (f : List Value × ToldRow). find key_cmp f.0 (by_keys all) ≡ Some f.1) es
    → AllByRecursion (λ (f : List Value × ToldRow). find key_cmp f.0 (put key_cmp e.0 e.1 (by_keys all)) ≡ Some f.1) es
told_behind e all [] apart h = tt
told_behind e all (f ∷ fs) apart h =
    let q = neither (same_key e.0 f.0) (list_any (same_key e.0) (map (λ (f : List Value × ToldRow). f.0) fs)) apart in
    let other : eq_by_cmp key_cmp f.0 e.0 ≡ false = (eq_by_cmp_equiv keys_total).symm f.0 e.0 ∙ q.0 in
    (find-put key_cmp keys_total f.0 e.0 e.1 (by_keys all) ∙ rw other h.0, told_behind e all fs q.1 h.1)

pub each_told : (es : ToldRows) → has_pair same_key (map (λ (e : List Value × ToldRow). e.0) es) ≡ false
    → AllByRecursion (λ (e : List Value × ToldRow). find key_cmp e.0 (by_keys es) ≡ Some e.1) es
each_told [] apart = tt
each_told (e ∷ es) apart =
    let q = neither (list_any (same_key e.0) (map (λ (f : List Value × ToldRow). f.0) es)) (has_pair same_key (map (λ (f : List Value × ToldRow). f.0) es)) apart in
    (find-put key_cmp keys_total e.0 e.0 e.1 (by_keys es) ∙ rw (tied_itself keys_total e.0) refl, told_behind e es es q.0 (each_told es q.1))

pub keys_told : (k : Kept) (name : List ℕ) (columns : List ColumnDef) (added : ℕ) (rows : List (List ValueRef))
    → map (λ (e : List Value × ToldRow). e.0) (map (told_row k name columns added) (map (row_values k.database.pool.places) rows)) ≡ keys_of_rows k.database.pool.places columns rows
keys_told k name columns added [] = refl
keys_told k name columns added (row ∷ rows) = ap (λ (l : List (List Value)). (told_row k name columns added (row_values k.database.pool.places row)).0 ∷ l) (keys_told k name columns added rows)

-- TEXTS THAT PASS A TEST

module _ (good : List ℕ → Bool) where
  abbrev pub is_good : Value → Bool
  is_good Null = true
  is_good (Int n) = true
  is_good (Str text) = good text
  is_good Binary = true

  abbrev pub AreGood : List Value → Type 0
  AreGood values = AllByRecursion (λ (v : Value). is_good v ≡ true) values

  -- rows of cells, and rows that are told
  abbrev pub IsGoodRow : List Place → List ValueRef → Type 0
  IsGoodRow places row = AreGood (row_values places row)

  abbrev pub IsGoodTold : List Value × ToldRow → Type 0
  IsGoodTold e = AreGood e.1.values

  -- each place that counts more than so many cells has a good text
  abbrev pub HoldsGood : Uses → List Place → Type 0
  HoldsGood rest places = (n : ℕ) → rest n < room places n → good (text_at places n) ≡ true

  good_joined : (xs ys : List Value) → AreGood xs → AreGood ys → AreGood (xs ++ ys)
  good_joined [] ys h g = g
  good_joined (x ∷ xs) ys h g = (h.0, good_joined xs ys h.1 g)

  nulls_good : (n : ℕ) → AreGood (replicate n Null)
  nulls_good zero = tt
  nulls_good (suc n) = (refl, nulls_good n)

  -- a row whose cells name places of good texts, and rows of a place of another text
  pub row_good : (places : List Place) (row : List ValueRef) → ((n : ℕ) → 0 < row_uses row n → good (text_at places n) ≡ true) → IsGoodRow places row
  row_good places [] h = tt
  row_good places (cell.Str number ∷ row) h = (h number (omega (arith, once_same number)), row_good places row (λ n some. h n (omega (arith, some))))
  row_good places (cell.Null ∷ row) h = (refl, row_good places row (λ n some. h n (omega (arith, some))))
  row_good places (cell.Int m ∷ row) h = (refl, row_good places row (λ n some. h n (omega (arith, some))))
  row_good places (cell.Binary ∷ row) h = (refl, row_good places row (λ n some. h n (omega (arith, some))))

  pub rows_good : (places : List Place) (rows : List (List ValueRef)) → ((n : ℕ) → 0 < rows_uses rows n → good (text_at places n) ≡ true) → AllByRecursion (IsGoodRow places) rows
  rows_good places [] h = tt
  rows_good places (row ∷ rows) h = (row_good places row (λ n some. h n (omega (arith, some))), rows_good places rows (λ n some. h n (omega (arith, some))))

  module _ (places : List Place) (n : ℕ) (bad : good (text_at places n) ≡ false) where
    pub none_named : (row : List ValueRef) → IsGoodRow places row → row_uses row n ≡ 0
    none_named [] h = refl
    none_named (cell.Str number ∷ row) h = by_number n number
        (λ e. yes_is_no (good (text_at places n)) (subst (λ (m : ℕ). good (text_at places m) ≡ true) (sym e) h.0) bad)
        (λ e. omega (arith, once_other number n e, none_named row h.1))
    none_named (cell.Null ∷ row) h = omega (arith, none_named row h.1)
    none_named (cell.Int m ∷ row) h = omega (arith, none_named row h.1)
    none_named (cell.Binary ∷ row) h = omega (arith, none_named row h.1)

    pub none_named_in : (rows : List (List ValueRef)) → AllByRecursion (IsGoodRow places) rows → rows_uses rows n ≡ 0
    none_named_in [] h = refl
    none_named_in (row ∷ rows) h = omega (arith, none_named row h.0, none_named_in rows h.1)

    pub none_of_rows : (rows : Rows) → AllByRecursion (λ (e : List Value × RowInHand). IsGoodRow places e.1.cells) rows → rows_uses (cells_of rows) n ≡ 0
    none_of_rows [] h = refl
    none_of_rows (e ∷ es) h = omega (arith, none_named e.1.cells h.0, none_of_rows es h.1)

  -- WHAT IS TOLD OF GOOD ROWS

  told_value_good : (there : Bool) (c : ColumnDef) (v : Value) → is_good v ≡ true → is_good (told_value there (c, v)) ≡ true
  told_value_good there c v h = by_test (is_of_streams c.coltype)
      (λ s. rw s (by_test there (λ t. rw t refl) (λ t. rw t refl)))
      (λ s. rw s h)

  pub told_good : (there : Bool) (columns : List ColumnDef) (values : List Value) → AreGood values → AreGood (told_values there columns values)
  told_good there [] values h = tt
  told_good there (c ∷ columns) [] h = tt
  told_good there (c ∷ columns) (v ∷ values) h = (told_value_good there c v h.0, told_good there columns values h.1)

  put_good : (k : List Value) (row : ToldRow) (es : ToldRows) → AreGood row.values → AllByRecursion IsGoodTold es → AllByRecursion IsGoodTold (put key_cmp k row es)
  put_good k row [] g h = (g, tt)
  put_good k row (e ∷ es) g h = elim (key_cmp k e.0) as (λ o. AllByRecursion IsGoodTold (by_order o ((k, row) ∷ e ∷ es) ((e.0, row) ∷ es) (e ∷ put key_cmp k row es))) [
    | Less ↦ (g, h)
    | Equal ↦ (g, h.1)
    | Greater ↦ (h.0, put_good k row es g h.1)
  ]

  module _ (k : Kept) (name : List ℕ) (added : ℕ) where
    abbrev columns : List ColumnDef
    columns = columns_in_table k name

    abbrev told : List Value → List Value × ToldRow
    told values = told_row k name columns added values

    all_told_good : (rows : List (List ValueRef)) → AllByRecursion (IsGoodRow k.database.pool.places) rows → AllByRecursion IsGoodTold (by_keys (map told (map (row_values k.database.pool.places) rows)))
    all_told_good [] h = tt
    all_told_good (row ∷ rows) h =
        let e = told (row_values k.database.pool.places row) in
        put_good e.0 e.1 (by_keys (map told (map (row_values k.database.pool.places) rows)))
        (good_joined (told_values (is_some e.1.stream) columns (row_values k.database.pool.places row)) (replicate added Null)
        (told_good (is_some e.1.stream) columns (row_values k.database.pool.places row) h.0) (nulls_good added))
        (all_told_good rows h.1)

    pub told_rows_good : AllByRecursion (IsGoodRow k.database.pool.places) (system_rows k.database name) → AllByRecursion IsGoodTold (told_rows k name added)
    told_rows_good h = all_told_good (system_rows k.database name) h

  -- and rows of which what is told is good, where no cell of a column of streams is null
  untold_good : (there : Bool) (columns : List ColumnDef) (values rest : List Value) → length values ≡ length columns → values_held columns values ≡ values
      → AreGood (told_values there columns values ++ rest) → AreGood values
  untold_good there columns [] rest long held h = tt
  untold_good there [] (v ∷ values) rest long held h = absurd (omega (arith, long))
  untold_good there (c ∷ columns) (v ∷ values) rest long held h =
      let first : held_in (c, v) ≡ v = same_head (held_in (c, v)) v (values_held columns values) values held in
      let later : values_held columns values ≡ values = same_tail (held_in (c, v)) v (values_held columns values) values held in (
        by_test (is_of_streams c.coltype)
            (λ s. ap is_good (sym (rw s at first)))
            (λ s. rw s at h.0),
        untold_good there columns values rest (omega (arith, long)) later h.1,
      )

  module _ (k : Kept) (name : List ℕ) (added : ℕ) (all : ToldRows) (all_good : AllByRecursion IsGoodTold all) where
    rows_told_good : (rows : List (List ValueRef)) → AllByRecursion (λ (row : List ValueRef). length row ≡ length (columns_in_table k name)) rows
        → AllByRecursion (λ (row : List ValueRef). values_held (columns_in_table k name) (row_values k.database.pool.places row) ≡ row_values k.database.pool.places row) rows
        → AllByRecursion (λ (e : List Value × ToldRow). find key_cmp e.0 all ≡ Some e.1) (map (told_row k name (columns_in_table k name) added) (map (row_values k.database.pool.places) rows))
        → AllByRecursion (IsGoodRow k.database.pool.places) rows
    rows_told_good [] whole held found = tt
    rows_told_good (row ∷ rows) whole held found =
        let values = row_values k.database.pool.places row in
        let e = told_row k name (columns_in_table k name) added values in (
          untold_good (is_some e.1.stream) (columns_in_table k name) values (replicate added Null) (length-map row (value_of_cell k.database.pool.places) ∙ whole.0) held.0
              (at_found key_cmp keys_total (λ (r : ToldRow). AreGood r.values) e.0 e.1 all found.0 all_good),
          rows_told_good rows whole.1 held.1 found.1,
        )

  pub told_were_good : (k : Kept) (name : List ℕ) (added : ℕ) → AllByRecursion (λ (row : List ValueRef). length row ≡ length (columns_in_table k name)) (system_rows k.database name)
      → AllByRecursion (λ (row : List ValueRef). values_held (columns_in_table k name) (row_values k.database.pool.places row) ≡ row_values k.database.pool.places row) (system_rows k.database name)
      → has_pair same_key (keys_of_rows k.database.pool.places (columns_in_table k name) (system_rows k.database name)) ≡ false
      → AllByRecursion IsGoodTold (told_rows k name added) → AllByRecursion (IsGoodRow k.database.pool.places) (system_rows k.database name)
  told_were_good k name added whole held apart h =
      let rows = system_rows k.database name in
      let told = map (told_row k name (columns_in_table k name) added) (map (row_values k.database.pool.places) rows) in
      rows_told_good k name added (told_rows k name added) h rows whole held
      (each_told told (ap (λ (l : List (List Value)). has_pair same_key l) (keys_told k name (columns_in_table k name) added rows) ∙ apart))

  -- ROWS IN HAND WITH THE VALUES OF GOOD ROWS

  held_good : (columns : List ColumnDef) (values : List Value) → AreGood values → AreGood (values_held columns values)
  held_good [] values h = tt
  held_good (c ∷ columns) [] h = tt
  held_good (c ∷ columns) (v ∷ values) h = (by_test (is_of_streams c.coltype) (λ s. rw s refl) (λ s. rw s h.0), held_good columns values h.1)

  module _ (streams : Streams) (change : TableChange) (places : List Place) where
    alike_good : (q : List Value) (o : Option RowInHand) (p : Option ToldRow) → AreAlike streams change places q o p → (row : RowInHand) → o ≡ Some row
        → ((other : ToldRow) → p ≡ Some other → AreGood other.values) → IsGoodRow places row.cells
    alike_good q None p h row is others = none_is is
    alike_good q (Some r) None h row is others = absurd h
    alike_good q (Some r) (Some other) h row is others =
        subst (λ (x : RowInHand). IsGoodRow places x.cells) (some_is r row is) (subst AreGood (sym h.values) (held_good change.columns other.values (others other refl)))

    module _ (rows : Rows) (others : ToldRows) (has : HaveValuesOf streams change places rows others) (others_good : AllByRecursion IsGoodTold others) where
      each_good : (es : Rows) → AllByRecursion (λ (e : List Value × RowInHand). find key_cmp e.0 rows ≡ Some e.1) es → AllByRecursion (λ (e : List Value × RowInHand). IsGoodRow places e.1.cells) es
      each_good [] found = tt
      each_good (e ∷ es) found = (
        alike_good e.0 (find key_cmp e.0 rows) (find key_cmp e.0 others) (has.each e.0) e.1 found.0
            (λ other is. at_found key_cmp keys_total (λ (r : ToldRow). AreGood r.values) e.0 other others is others_good),
        each_good es found.1,
      )

      pub values_good : AllByRecursion (λ (e : List Value × RowInHand). IsGoodRow places e.1.cells) rows
      values_good = each_good rows (each_found key_cmp keys_total rows has.sorted)
