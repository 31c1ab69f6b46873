-- Packages in order, and the cells of an exact one: those of the tables that go, of those that change, and of the others.
use Rattle.std.proofs.Common.{◌≡◌, ℕ, ◌+◌, ◌≤◌, Bool, true, false, not, ◌&&◌, ◌||◌, T, List, [], ◌∷◌, refl, sym, ap, subst, ◌∙◌, arith}
use Rattle.std.specs.Prelude.{Option, Some, None, is_some, option_map, unwrap_or, if◌then◌else◌, bytes_eq}
use Rattle.std.specs.Cmp.{eq_by_cmp_equiv}
use Rattle.std.specs.Cmp.Lexicographic.{bytes_decides}
use Rattle.std.specs.FinMap.{find, is_sorted}
use Rattle.std.specs.List.{AllByRecursion, list_all}
use Rattle.std.specs.Ordering.{eq_by_cmp}
use Rattle.std.proofs.lemmas.Bool.{and_parts}
use Rattle.std.proofs.lemmas.Map.Text.{is_eq-slice_cmp}
use Rattle.msi_base.specs.Lists.{list_cmp}
use Rattle.msi_base.proofs.BoolLemmas.{by_test, yes_is_no}
use Rattle.msi_table_cells.specs.declared.cell.ValueRef.{ValueRef}
use Rattle.msi_table_cells.specs.TableCells.{TableCells}
use Rattle.msi_database_schema.specs.System.{columns_name, is_schema_table, tables_name}
use Rattle.msi_database_schema.proofs.AccountLemmas.{Enough, room}
use Rattle.msi_database_changes.specs.Database.{Database, Tables, counts_suffice, has_table, names_are_numbers, names_stay_in_pool, pool_fits_width, rows_of, table_at, table_is_full, tables_are_readable}
use Rattle.msi_database_changes.proofs.soundness.SoundLemmas.{enough_from_sound, exact_from}
use Rattle.msi_database_changes.proofs.text_counts.RowsLemmas.{rows_uses}
use Rattle.msi_database_changes.proofs.text_counts.TablesLemmas.{database_uses, table_uses, tables_uses, total-found}
use Rattle.msi_database_storage.specs.Kept.{Kept}
use Rattle.msi_transform_schema.specs.SchemaApplying.{system_rows}
use Rattle.msi_transform_making.specs.Making.{names_beside}
use Rattle.msi_transform_laws.specs.ExactPackages.{IsExact, IsInOrder}
use Rattle.msi_transform_laws.specs.TablesChanged.{TableOfRecords, cells_to_change}
use Rattle.msi_transform_laws.specs.TablesRemoved.{cells_removed}
use Rattle.msi_transform_laws.proofs.AppliedRecordsLemmas.{naming_cells}
use Rattle.msi_transform_laws.proofs.GoodTextsLemmas.{each_found}
use Rattle.msi_transform_laws.proofs.NamedSumsLemmas.{if_among, if_passing, named_sum, only_at, sum_among, sum_at, sum_both, sum_passing, sum_same}
use Rattle.msi_transform_laws.proofs.StoredRecordsLemmas.{names_total}
use Rattle.msi_transform_laws.proofs.TablesChangedLemmas.{no_rows_there}

true_is : (b : Bool) → b ≡ true → T b
true_is true h = tt
true_is false h = absurd (yes_is_no false h refl)

-- A PACKAGE IN ORDER

module _ (k : Kept) (order : IsInOrder k) where
  abbrev d : Database
  d = k.database

  well_parts : (names_are_numbers d && is_sorted list_cmp d.tables) ≡ true
  well_parts = (and_parts (names_are_numbers d && is_sorted list_cmp d.tables) (list_all table_is_full d.tables) order.well_formed).0

  pub tables_sorted : T (is_sorted list_cmp d.tables)
  tables_sorted = true_is (is_sorted list_cmp d.tables) (and_parts (names_are_numbers d) (is_sorted list_cmp d.tables) well_parts).1

  pub enough : Enough d.pool.places (database_uses d)
  enough =
      let one = and_parts (counts_suffice d && names_stay_in_pool d && pool_fits_width d && tables_are_readable d) _ order.sound in
      let two = and_parts (counts_suffice d && names_stay_in_pool d && pool_fits_width d) (tables_are_readable d) one.0 in
      let three = and_parts (counts_suffice d && names_stay_in_pool d) (pool_fits_width d) two.0 in
      let four = and_parts (counts_suffice d) (names_stay_in_pool d) three.0 in
      enough_from_sound d four.0 four.1 (and_parts (names_are_numbers d) (is_sorted list_cmp d.tables) well_parts).0

  -- the cells of a table name places that are in use
  rows_within : (name : List ℕ) (n : ℕ) (o : Option TableCells) → table_at name d ≡ o → rows_uses (unwrap_or (option_map rows_of o) []) n ≤ tables_uses d.tables n
  rows_within name n None at = omega arith
  rows_within name n (Some t) at = total-found list_cmp table_uses name t d.tables n at

  pub rows_in_use : (name : List ℕ) (n : ℕ) → rows_uses (system_rows d name) n ≤ room d.pool.places n
  rows_in_use name n = omega (arith, rows_within name n (table_at name d) refl, enough n)

-- THE PARTS OF AN EXACT PACKAGE

-- the cells of the rows of a table that name a place
abbrev pub uses_of : Database → ℕ → List ℕ → ℕ
uses_of d n name = rows_uses (system_rows d name) n

abbrev pub to_change : Database → ℕ → List ℕ → ℕ
to_change d n name = if is_schema_table name then 0 else uses_of d n name

sum_of_tables : (d : Database) (n : ℕ) (es : Tables) → AllByRecursion (λ (e : List ℕ × TableCells). find list_cmp e.0 d.tables ≡ Some e.1) es → tables_uses es n ≡ named_sum (uses_of d n) es
sum_of_tables d n [] found = refl
sum_of_tables d n (e ∷ es) found =
    let here : rows_uses (rows_of e.1) n ≡ uses_of d n e.0 = ap (λ (o : Option TableCells). rows_uses (unwrap_or (option_map rows_of o) []) n) (sym found.0) in
    omega (arith, here, sum_of_tables d n es found.1)

sum_changed : (d : Database) (n : ℕ) (ts : List TableOfRecords) → named_sum (to_change d n) ts ≡ cells_to_change d ts n
sum_changed d n [] = refl
sum_changed d n (e ∷ ts) = by_test (is_schema_table e.0)
    (λ s. rw s (omega (arith, sum_changed d n ts)))
    (λ s. rw s (omega (arith, sum_changed d n ts, naming_cells (system_rows d e.0) n)))

pub names_turn : (m n : List ℕ) → eq_by_cmp list_cmp n m ≡ bytes_eq m n
names_turn m n = (eq_by_cmp_equiv names_total).symm n m ∙ is_eq-slice_cmp m n

module _ (k : Kept) (exact : IsExact k) (other : Database) (has_tables : has_table tables_name other ≡ true) (has_columns : has_table columns_name other ≡ true)
    (ts : List TableOfRecords) (sorted : T (is_sorted list_cmp ts)) (named : (m : List ℕ) → is_schema_table m ≡ false → is_some (find list_cmp m ts) ≡ true → has_table m other ≡ true) (n : ℕ) where
  abbrev old : Database
  old = k.database

  abbrev goes : List ℕ → Bool
  goes m = not (has_table m other)

  -- the tables that aren't changed: the others than `_Tables` and `_Columns`, which neither go nor have records
  abbrev pub unchanged : List ℕ → ℕ
  unchanged m = if is_schema_table m then 0 else if goes m then 0 else if is_some (find list_cmp m ts) then 0 else uses_of old n m

  abbrev parts : List ℕ → ℕ
  parts m = only_at tables_name (uses_of old n) m + (only_at columns_name (uses_of old n) m + (if_passing goes (uses_of old n) m + (if_among ts (to_change old n) m + unchanged m)))

  stays_there : (m : List ℕ) → has_table m other ≡ true → goes m ≡ false
  stays_there m there = ap not there

  parts_are : (m : List ℕ) → uses_of old n m ≡ parts m
  parts_are m = by_test (bytes_eq m tables_name)
      (λ a.
      let is : m ≡ tables_name = (bytes_decides m tables_name).0 a in
      subst (λ (x : List ℕ). uses_of old n x ≡ parts x) (sym is) (rw (has_tables) (by_test (is_some (find list_cmp tables_name ts)) (λ c. rw c (omega arith)) (λ c. rw c (omega arith)))))
      (λ a. by_test (bytes_eq m columns_name)
      (λ b.
      let is : m ≡ columns_name = (bytes_decides m columns_name).0 b in
      subst (λ (x : List ℕ). uses_of old n x ≡ parts x) (sym is) (rw (has_columns) (by_test (is_some (find list_cmp columns_name ts)) (λ c. rw c (omega arith)) (λ c. rw c (omega arith)))))
      (λ b.
      let first : eq_by_cmp list_cmp tables_name m ≡ false = names_turn m tables_name ∙ a in
      let second : eq_by_cmp list_cmp columns_name m ≡ false = names_turn m columns_name ∙ b in
      let plain : is_schema_table m ≡ false = (λ i. a i || b i) in
      plain_parts m first second plain))
    where
      plain_parts : (m : List ℕ) → eq_by_cmp list_cmp tables_name m ≡ false → eq_by_cmp list_cmp columns_name m ≡ false → is_schema_table m ≡ false → uses_of old n m ≡ parts m
      plain_parts m first second plain = by_test (has_table m other)
          (λ h. by_test (is_some (find list_cmp m ts)) (λ c. rw (first, second, h, c, plain) (omega arith)) (λ c. rw (first, second, h, c, plain) (omega arith)))
          (λ h. by_test (is_some (find list_cmp m ts))
          (λ c. yes_is_no (has_table m other) (named m plain c) h)
          (λ c. rw (first, second, h, c, plain) (omega arith)))

  none_uses : (m : List ℕ) → is_some (find list_cmp m old.tables) ≡ false → uses_of old n m ≡ 0
  none_uses m none = ap (λ (rows : List (List ValueRef)). rows_uses rows n) (no_rows_there old m none)

  none_changed : (m : List ℕ) → is_some (find list_cmp m old.tables) ≡ false → to_change old n m ≡ 0
  none_changed m none = by_test (is_schema_table m) (λ s. rw s refl) (λ s. rw s (none_uses m none))

  sum_gone : named_sum (if_passing goes (uses_of old n)) old.tables ≡ cells_removed old (names_beside old other) n
  sum_gone = sum_passing goes (uses_of old n) (λ (names : List (List ℕ)). cells_removed old names n) refl (λ m ms. omega (arith, naming_cells (system_rows old m) n)) old.tables

  -- each place counts the cells of the two lists, of the tables that go, of those that change, and of the others
  pub exact_parts : room old.pool.places n ≡ uses_of old n tables_name + (uses_of old n columns_name
      + (cells_removed old (names_beside old other) n + (cells_to_change old ts n + named_sum unchanged old.tables)))
  exact_parts =
      let tables_in = tables_sorted k exact.order in
      let all : room old.pool.places n ≡ database_uses old n = exact_from old (enough k exact.order) exact.counts n in
      let unlisted : rows_uses old.unlisted_validation n ≡ 0 = ap (λ (rows : List (List ValueRef)). rows_uses rows n) exact.order.unlisted in
      let lists : (if is_some (find list_cmp tables_name old.tables) then uses_of old n tables_name else 0) ≡ uses_of old n tables_name = rw exact.order.has_tables refl in
      let describes : (if is_some (find list_cmp columns_name old.tables) then uses_of old n columns_name else 0) ≡ uses_of old n columns_name = rw exact.order.has_columns refl in
      omega (
        arith,
        all,
        unlisted,
        lists,
        describes,
        sum_of_tables old n old.tables (each_found list_cmp names_total old.tables tables_in),
        sum_same (uses_of old n) parts parts_are old.tables,
        sum_both (only_at tables_name (uses_of old n)) (λ m. only_at columns_name (uses_of old n) m + (if_passing goes (uses_of old n) m + (if_among ts (to_change old n) m + unchanged m))) old.tables,
        sum_both (only_at columns_name (uses_of old n)) (λ m. if_passing goes (uses_of old n) m + (if_among ts (to_change old n) m + unchanged m)) old.tables,
        sum_both (if_passing goes (uses_of old n)) (λ m. if_among ts (to_change old n) m + unchanged m) old.tables,
        sum_both (if_among ts (to_change old n)) unchanged old.tables,
        sum_at tables_name (uses_of old n) old.tables tables_in,
        sum_at columns_name (uses_of old n) old.tables tables_in,
        sum_gone,
        sum_among (to_change old n) old.tables tables_in none_changed ts sorted,
        sum_changed old n ts,
      )
