-- Listed tables read one by one, and the answer that they make.
use Rattle.std.proofs.Common.{◌≡◌, ℕ, zero, suc, ◌+◌, ◌<◌, Bool, true, false, List, [], ◌∷◌, ◌++◌, length, map, take, refl, sym, ap, ◌∙◌, arith, Some, None}
use Rattle.std.specs.Prelude.{◌||◌, Option, option_map, slice_index_or}
use Rattle.std.proofs.lemmas.List.{take_more}
use Rattle.std.proofs.lemmas.List.Sorted.{list_any-IsPermutation}
use Rattle.std.proofs.lemmas.Bool.{or_parts}
use Rattle.msi_base.specs.Lists.{all_present, stable_sort}
use Rattle.msi_base.proofs.BoolLemmas.{by_test}
use Rattle.msi_table_values.specs.declared.value.Value.{Value}
use Rattle.msi_table.specs.Tables.{TableDef}
use Rattle.msi_database_schema.specs.ListedTables.{by_names, listed_table, listed_tables, with_system}
use Rattle.msi_database_schema.specs.RowOrders.{by_numbers, by_texts, describing, number_in, numbers_cmp, rows_of}
use Rattle.msi_database_schema.specs.Schema.{SchemaRows, counted, has_long_number, has_odd_name, is_faulty, tables_of, text_at}
use Rattle.msi_database_schema.proofs.OrderLemmas.{sorted_is}
use Rattle.msi_database_schema.proofs.OrderlessLemmas.{is_counted}
use Rattle.msi_database_schema.proofs.RowOrderLemmas.{numbers_total}
use Rattle.msi_database_schema.proofs.TablesLemmas.{listed_sorted, present_more, tables_are, tables_unread}

module _ (long : Bool) (columns validation : List (List Value)) where
  abbrev pub read_of : List Value → Option TableDef
  read_of row = listed_table long (describing columns validation) (text_at 0 row)

  abbrev pub all_read : List (List Value) → Option (List TableDef)
  all_read rows = listed_tables long (rows_of rows columns validation)

  abbrev each : List (List Value) → List (Option TableDef)
  each rows = map (listed_table long (describing columns validation)) (map (text_at 0) (counted rows))

  each_more : (rows : List (List Value)) (row : List Value) → is_counted row ≡ true → each (rows ++ row ∷ []) ≡ each rows ++ read_of row ∷ []
  each_more [] row t = rw t refl
  each_more (r ∷ rows) row t = by_test (is_counted r)
      (λ u. rw u (ap (λ (l : List (Option TableDef)). read_of r ∷ l) (each_more rows row t)))
      (λ u. rw u (each_more rows row t))

  each_skips : (rows : List (List Value)) (row : List Value) → is_counted row ≡ false → each (rows ++ row ∷ []) ≡ each rows
  each_skips [] row t = rw t refl
  each_skips (r ∷ rows) row t = by_test (is_counted r)
      (λ u. rw u (ap (λ (l : List (Option TableDef)). read_of r ∷ l) (each_skips rows row t)))
      (λ u. rw u (each_skips rows row t))

  more_behind : (o p : Option (List TableDef)) (read : List TableDef) (t : TableDef) → ((xs : List TableDef) → o ≡ Some xs → p ≡ Some (xs ++ t ∷ [])) → option_map (with_system long) o ≡ Some read → option_map (with_system long) p ≡ Some (read ++ t ∷ [])
  more_behind None p read t h e = cc
  more_behind (Some xs) p read t h e = let s : read ≡ with_system long xs = cc in rw (s, h xs refl) refl

  -- one more row that counts, and one that doesn't
  pub read_more : (rows : List (List Value)) (i : ℕ) (row : List Value) (read more : List TableDef) (t : TableDef) → i < length rows → row ≡ slice_index_or rows i row → is_counted row ≡ true
      → option_map (with_system long) (all_read (take i rows)) ≡ Some read → read_of row ≡ Some t → more ≡ read ++ t ∷ [] → option_map (with_system long) (all_read (take (i + 1) rows)) ≡ Some more
  read_more rows i row read more t h at counts e r m =
      let step : take (i + 1) rows ≡ take i rows ++ row ∷ [] = take_more rows i row h ∙ ap (λ (x : List Value). take i rows ++ x ∷ []) (sym at) in
      ap (λ (l : List (List Value)). option_map (with_system long) (all_read l)) step
      ∙ more_behind (all_read (take i rows)) (all_read (take i rows ++ row ∷ [])) read t
      (λ xs f. ap all_present (each_more (take i rows) row counts ∙ ap (λ (o : Option TableDef). each (take i rows) ++ o ∷ []) r) ∙ present_more (each (take i rows)) xs t f) e
      ∙ ap Some (sym m)

  pub read_skips : (rows : List (List Value)) (i : ℕ) (row : List Value) (read : List TableDef) → i < length rows → row ≡ slice_index_or rows i row → is_counted row ≡ false
      → option_map (with_system long) (all_read (take i rows)) ≡ Some read → option_map (with_system long) (all_read (take (i + 1) rows)) ≡ Some read
  read_skips rows i row read h at counts e =
      let step : take (i + 1) rows ≡ take i rows ++ row ∷ [] = take_more rows i row h ∙ ap (λ (x : List Value). take i rows ++ x ∷ []) (sym at) in
      ap (λ (l : List (List Value)). option_map (with_system long) (all_read l)) step
      ∙ ap (λ (l : List (Option TableDef)). option_map (with_system long) (all_present l)) (each_skips (take i rows) row counts) ∙ e

  none_behind : {X : Type 0} (o : Option X) (os : List (Option X)) → all_present os ≡ None → all_present (o ∷ os) ≡ None
  none_behind None os e = refl
  none_behind (Some x) os e = rw e refl

  -- where one can't be read, nothing is
  pub unread : (rows : List (List Value)) (i : ℕ) (row : List Value) → i < length rows → row ≡ slice_index_or rows i row → is_counted row ≡ true → read_of row ≡ None → all_read rows ≡ None
  unread [] i row h at counts e = absurd (omega arith)
  unread (r ∷ rows) zero row h at counts e =
      let t : is_counted r ≡ true = ap is_counted (sym at) ∙ counts in
      let n : read_of r ≡ None = ap read_of (sym at) ∙ e in
      rw (t, n) refl
  unread (r ∷ rows) (suc i) row h at counts e = by_test (is_counted r)
      (λ u. rw u (none_behind (read_of r) (each rows) (unread rows i row (omega arith) at counts e)))
      (λ u. rw u (unread rows i row (omega arith) at counts e))

pub table_ungiven : {C T : Type 0} (o : Option C) (f : C → T) → o ≡ None → option_map f o ≡ None
table_ungiven o f e = rw e refl

-- ---- the whole

pub short_sorted : (rows sorted : List (List Value)) → sorted ≡ stable_sort by_numbers rows → has_long_number rows ≡ false → has_long_number sorted ≡ false
short_sorted rows sorted e short = ap has_long_number e
    ∙ sym (list_any-IsPermutation _ rows (stable_sort by_numbers rows) ((sorted_is number_in numbers_cmp numbers_total rows).moved)) ∙ short

none_under : {X Y : Type 0} (f : X → Y) (o : Option X) → option_map f o ≡ None → o ≡ None
none_under f None e = refl
none_under f (Some x) e = cc

some_under : {X Y Z : Type 0} (f : X → Y) (g : Y → Z) (o : Option X) (y : Y) → option_map f o ≡ Some y → option_map (λ x. g (f x)) o ≡ Some (g y)
some_under f g None y e = cc
some_under f g (Some x) y e = let s : y ≡ f x = cc in rw s refl

module _ (long : Bool) (s : SchemaRows) (tables columns validation : List (List Value)) (et : tables ≡ s.tables) (ec : columns ≡ stable_sort by_numbers s.columns) (ev : validation ≡ stable_sort (by_texts 1) s.validation)
    (fits : (has_odd_name s.tables || has_long_number s.columns) ≡ false) where
  same_listed : listed_tables long (rows_of tables columns validation) ≡ listed_tables long s
  same_listed = (λ i. listed_tables long (rows_of (et i) (ec i) (ev i))) ∙ listed_sorted long s

  pub nothing_described : option_map (with_system long) (listed_tables long (rows_of tables columns validation)) ≡ None → tables_of long s ≡ None
  nothing_described e =
      let f = or_parts (has_odd_name s.tables) (has_long_number s.columns) fits in
      tables_unread long s f.0 f.1 (sym same_listed ∙ none_under (with_system long) (listed_tables long (rows_of tables columns validation)) e)

  pub tables_given : (read : List TableDef) → option_map (with_system long) (listed_tables long (rows_of tables columns validation)) ≡ Some read → is_faulty s ≡ false → tables_of long s ≡ Some (stable_sort by_names read)
  tables_given read e sound =
      let f = or_parts (has_odd_name s.tables) (has_long_number s.columns) fits in
      tables_are long s f.0 f.1 sound ∙ ap (option_map (λ listed. stable_sort by_names (with_system long listed))) (sym same_listed)
      ∙ some_under (with_system long) (stable_sort by_names) (listed_tables long (rows_of tables columns validation)) read e
