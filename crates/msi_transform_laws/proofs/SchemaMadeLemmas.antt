-- The tables and columns of the new package, once the records of `_Tables` and `_Columns` are applied.
use Rattle.std.proofs.Common.{◌≡◌, ℕ, zero, suc, inl, inr, ◌⊎◌, ap₂, length-append, ◌+◌, ◌*◌, ◌≤◌, Bool, true, false, cond, not, ◌&&◌, ◌||◌, List, [], ◌∷◌, ◌++◌, length, map, filter, drop, take, refl, sym, ap, subst, ◌∙◌, arith, append-nil, T, ◌<◌}
use Rattle.std.specs.Prelude.{Option, Some, None, Result, Ok, option_map, unwrap_or, if◌then◌else◌, nat_lt, bytes_eq, ◌==◌}
use Rattle.std.specs.Cmp.{eq_by_cmp_equiv, tied_itself}
use Rattle.std.specs.Cmp.Lexicographic.{bytes_decides}
use Rattle.std.specs.FinMap.{find, is_sorted, put}
use Rattle.std.specs.FinMap.Entries.{below_all, by_order, is_sorted-put, is_some-find}
use Rattle.std.specs.List.{AllByRecursion, flat_map, list_all, list_any}
use Rattle.std.specs.Ordering.{eq_by_cmp, is_lt}
use Rattle.std.specs.declared.cmp.Ordering.TheVariants.{Less, Equal, Greater}
use Rattle.std.proofs.lemmas.Bool.{ltb-false, or_cases}
use Rattle.std.proofs.lemmas.List.{length-map, map-append}
use Rattle.msi_base.specs.Lists.{has_pair, list_cmp}
use Rattle.msi_base.specs.declared.errors.ErrorKind.{ErrorKind}
use Rattle.msi_base.specs.declared.errors.ErrorKind.TheVariants.{InvalidData}
use Rattle.msi_base.specs.Refusals.{first_refusal, unless}
use Rattle.msi_base.proofs.BoolLemmas.{T_parts, by_test, yes_is_no}
use Rattle.msi_base.proofs.ListLemmas.{none_passes, same_head, same_tail}
use Rattle.msi_base.proofs.OptionLemmas.{none_there, some_is}
use Rattle.msi_pool.specs.FirstFitLaws.{TakenPlacesHoldTheirText, GivenBackTakesOne}
use Rattle.msi_table_values.specs.declared.value.Value.{Value}
use Rattle.msi_table_cells.specs.TableCells.{TableCells}
use Rattle.msi_table_values.specs.Columns.{ColumnDef}
use Rattle.msi_database_schema.specs.System.{columns_columns, columns_name, is_schema_table, tables_columns, tables_name}
use Rattle.msi_database_schema.proofs.AccountLemmas.{Uses}
use Rattle.msi_database_changes.specs.Database.{Database, has_table, table_at}
use Rattle.msi_transform_records.specs.declared.action.Action.{Action}
use Rattle.msi_transform_records.specs.declared.action.Action.TheVariants.{Add, Remove}
use Rattle.msi_transform_records.specs.declared.records.Record.{Record}
use Rattle.msi_transform_records.specs.declared.shape.Shape.{Shape}
use Rattle.msi_transform.specs.Transforms.{TransformDef, shapes_of}
use Rattle.msi_transform.specs.declared.conditions.ErrorConditions.{ErrorConditions}
use Rattle.msi_transform_rows.specs.KeyOfRows.{key_cmp}
use Rattle.msi_transform_rows.specs.RecordRefusals.{Refusal, in_turn_from, nowhere, ◌>>=◌}
use Rattle.msi_transform_rows.specs.TableRecords.{number_of}
use Rattle.msi_transform_schema.specs.SchemaApplying.{complete_refusals, have_own_keys, records_applied, schema_begun, schema_changed, system_rows}
use Rattle.msi_transform_schema.specs.SchemaChanges.{SchemaChange, SchemaInHand, TableInHand, TablesTold, are_complete, column_record_applied, column_key, columns_in_hand, columns_of_package, is_added, is_complete, is_name_to_list, is_unlisted, table_in_hand, table_record_applied, untold_table}
use Rattle.msi_transform_schema.specs.declared.schema.Standing.{Standing}
use Rattle.msi_transform_schema.specs.declared.schema.Standing.TheVariants as stands
use Rattle.msi_transform_applying.specs.Applying.{change_with, is_broken}
use Rattle.msi_transform_making.specs.Making.{Pair, ToldRecord, columns_before, columns_in_table, describing_record, described_columns, gains_columns, has_odd_columns, is_odd_table, listing_record, made, names_beside, records_of_columns, told_names}
use Rattle.msi_transform_laws.specs.CarriedOut.{IsTellable, is_key_of_streams}
use Rattle.msi_transform_laws.specs.RecordsRead.{action_and_values, as_values}
use Rattle.msi_transform_laws.specs.RowsApplied.{SaySame}
use Rattle.msi_transform_laws.specs.RowsBegun.{HasNewColumns, StandsAs}
use Rattle.msi_transform_laws.specs.SchemaApplied.{CanAddColumns, CanAddTables, ColumnToAdd, CountsSchema, IsKeptOrAdded, IsNumber, SchemaAfter, record_of_column, texts_of_columns, with_column_added, with_columns_added, with_table_added, with_tables_added}
use Rattle.msi_transform_laws.specs.SchemaMade.{TablesCanChange, cells_gone, AreDescribed, ColumnsKeepNames, MadeSchemaIsNew, NewColumnsAreDescribed, texts_of_schema}
use Rattle.msi_transform_laws.specs.TableApplied.{CanHaveRecords}
use Rattle.msi_transform_laws.specs.TablesRemoved.{with_table_removed, with_tables_removed}
use Rattle.msi_transform_laws.proofs.AddedColumnsLemmas.{all_added, columns_to_add, few_texts, many_names, names_of, number_if, same_records, same_shapes, shapes_joined, to_add}
use Rattle.msi_transform_laws.proofs.AppliedRecordsLemmas.{joined_applied}
use Rattle.msi_transform_laws.proofs.CarriedOutLemmas.{less}
use Rattle.msi_transform_laws.proofs.FitPackagesLemmas.{both_fit, no_table_reason}
use Rattle.msi_transform_laws.proofs.GoodTextsLemmas.{AreGood, HoldsGood}
use Rattle.msi_transform_laws.proofs.ListedTablesLemmas.{exact_names}
use Rattle.msi_transform_laws.proofs.MadeRecordsLemmas.{apart_passing}
use Rattle.msi_transform_laws.proofs.RowsBegunLemmas.{has_key, key_shapes}
use Rattle.msi_transform_laws.proofs.SchemaAppliedLemmas.{DescribesNoMore, IsAbsent, IsExactly, columns_put, listings, name_shapes, row_of}
use Rattle.msi_transform_laws.proofs.StoredRecordsLemmas.{names_total, other_name}
use Rattle.msi_transform_laws.proofs.TablesRemovedLemmas.{Went, removals}
use Rattle.msi_transform_laws.proofs.TableChangedLemmas.{all_there, broken_parts, each_among, whole}
use Rattle.msi_transform_laws.proofs.SchemaListsLemmas.{AreAbsent, MayCome, MayGo, absent_columns, absent_tables, all_passing, by_stored, can_come, can_go, each_passing, found_added, found_removed, in_hand_then, is_new, list_of_columns, list_of_tables, names_differ, neither, none_absent, not_false, not_true, read_tables, standing_of}

-- THE COLUMNS OF ALL TABLES

names_taken : (n : ℕ) (columns : List ColumnDef) → names_of (take n columns) ≡ take n (names_of columns)
names_taken zero columns = refl
names_taken (suc n) [] = refl
names_taken (suc n) (c ∷ columns) = ap (λ (l : List (List ℕ)). c.name ∷ l) (names_taken n columns)

pub shapes_dropped : (n : ℕ) (columns : List ColumnDef) → shapes_of (drop n columns) ≡ drop n (shapes_of columns)
shapes_dropped zero columns = refl
shapes_dropped (suc n) [] = refl
shapes_dropped (suc n) (c ∷ columns) = shapes_dropped n columns

pub taken_dropped : {X : Type 0} (n : ℕ) (xs : List X) → take n xs ++ drop n xs ≡ xs
taken_dropped zero xs = refl
taken_dropped (suc n) [] = refl
taken_dropped {X} (suc n) (x ∷ xs) = ap (λ (l : List X). x ∷ l) (taken_dropped n xs)

dropped_all : {X : Type 0} (n : ℕ) (xs : List X) → length xs ≤ n → drop n xs ≡ []
dropped_all zero [] h = refl
dropped_all zero (x ∷ xs) h = absurd (omega (arith, h))
dropped_all (suc n) [] h = refl
dropped_all (suc n) (x ∷ xs) h = dropped_all n xs (omega (arith, h))

texts_joined : (xs ys : List ColumnToAdd) → texts_of_columns (xs ++ ys) ≡ texts_of_columns xs + texts_of_columns ys
texts_joined [] ys = omega arith
texts_joined (x ∷ xs) ys = omega (arith, texts_joined xs ys)

module _ (p : Pair) where
  abbrev d : Database
  d = p.old.database

  -- what is needed of a table, and how it is in hand before
  pub record GetsColumns (name : List ℕ) : Type 0 where
    described : NewColumnsAreDescribed p name
    names : ColumnsKeepNames p name
    tellable : IsTellable p.old p.new name
    few : gains_columns p.old p.new name ≡ true → has_odd_columns (columns_in_table p.new name) ≡ false

  abbrev before : List ℕ → ℕ
  before name = columns_before d name

  abbrev rows_of : List ℕ → List (List Value)
  rows_of name = drop (before name) (described_columns p.new name)

  abbrev new_columns : List ℕ → List ColumnDef
  new_columns name = drop (before name) (columns_in_table p.new name)

  abbrev adding : (name : List ℕ) → NewColumnsAreDescribed p name → List ColumnToAdd
  adding name are = to_add (has_table name d) name (before name + 1) (rows_of name) (new_columns name) are

  abbrev all_adding : (names : List (List ℕ)) → AllByRecursion GetsColumns names → List ColumnToAdd
  all_adding [] gets = []
  all_adding (n ∷ ns) gets = adding n gets.0.described ++ all_adding ns gets.1

  same_in_all : (names : List (List ℕ)) (gets : AllByRecursion GetsColumns names)
      → map action_and_values (flat_map (records_of_columns p.old p.new) names) ≡ map action_and_values (map record_of_column (all_adding names gets))
  same_in_all [] gets = refl
  same_in_all (n ∷ ns) gets =
      map-append action_and_values (records_of_columns p.old p.new n) (flat_map (records_of_columns p.old p.new) ns)
      ∙ ap₂ (λ (l m : List (Action × List Value)). l ++ m) (same_records (has_table n d) n (before n + 1) (rows_of n) (new_columns n) gets.0.described) (same_in_all ns gets.1)
      ∙ sym (ap (map action_and_values) (map-append record_of_column (adding n gets.0.described) (all_adding ns gets.1))
      ∙ map-append action_and_values (map record_of_column (adding n gets.0.described)) (map record_of_column (all_adding ns gets.1)))

  few_in_all : (names : List (List ℕ)) (gets : AllByRecursion GetsColumns names) → texts_of_columns (all_adding names gets) ≤ length (flat_map (records_of_columns p.old p.new) names) * 3
  few_in_all [] gets = omega arith
  few_in_all (n ∷ ns) gets = omega (
    arith,
    texts_joined (adding n gets.0.described) (all_adding ns gets.1),
    few_texts (has_table n d) n (before n + 1) (rows_of n) (new_columns n) gets.0.described,
    few_in_all ns gets.1,
    length-map (rows_of n) (describing_record (has_table n d)),
    length-append (records_of_columns p.old p.new n) (flat_map (records_of_columns p.old p.new) ns),
  )

  -- one table
  abbrev Added : TablesTold → List ℕ → Type 0
  Added tables name = HasNewColumns p.old p.new name (table_in_hand d tables name)

  abbrev Begins : TablesTold → List ℕ → Type 0
  Begins tables name = table_in_hand d tables name ≡ record { standing = standing_of d name; added = [] }

  abbrev Others : TablesTold → TablesTold → List (List ℕ) → Type 0
  Others tables after names = (other : List ℕ) → list_any (eq_by_cmp list_cmp other) names ≡ false → find list_cmp other after ≡ find list_cmp other tables

  module _ (name : List ℕ) (gets : GetsColumns name) (b : Bool) (there : has_table name d ≡ b) where
    abbrev standing : Standing
    standing = if b then stands.Kept else stands.Added

    abbrev old_columns : List ColumnDef
    old_columns = columns_in_table p.old name

    abbrev after : List ColumnDef
    after = columns_in_table p.new name

    abbrev front : List ColumnDef
    front = take (before name) after

    old_absent : b ≡ false → old_columns ≡ []
    old_absent f = ap (λ (o : Option TableCells). unwrap_or (option_map (λ t. t.columns) o) []) (none_there (table_at name d) (there ∙ f))

    package_by : (c : Bool) → c ≡ b → columns_of_package d name (if c then stands.Kept else stands.Added) ≡ old_columns
    package_by true e = refl
    package_by false e = sym (old_absent (sym e))

    package_is : columns_of_package d name standing ≡ old_columns
    package_is = package_by b refl

    names_front : names_of old_columns ≡ names_of front
    names_front = gets.names ∙ sym (names_taken (before name) after)

    front_long : length front ≡ before name
    front_long = sym (many_names front) ∙ ap (λ (l : List (List ℕ)). length l) (sym names_front) ∙ many_names old_columns

    stood_by : (c : Bool) → IsKeptOrAdded (if c then stands.Kept else stands.Added)
    stood_by true = tt
    stood_by false = tt

    numbered_by : (c : Bool) (n : ℕ) → IsNumber n (number_if c n)
    numbered_by true n = refl
    numbered_by false n = tt

    keys_by : (c : Bool) → c ≡ b → is_added (if c then stands.Kept else stands.Added) ≡ false → has_key (new_columns name) ≡ false
    keys_by true e s = (gets.tellable.before (there ∙ sym e)).1.plain
    keys_by false e s = yes_is_no true refl s

    -- the columns that it has in the end have the new package's types
    shapes_front : (c : Bool) → c ≡ b → shapes_of old_columns ≡ take (before name) (shapes_of after)
    shapes_front true e = sym (gets.tellable.before (there ∙ sym e)).1.begun
    shapes_front false e =
        let none : before name ≡ 0 = ap (λ (l : List ColumnDef). length l) (old_absent (sym e)) in
        ap shapes_of (old_absent (sym e)) ∙ ap (λ (n : ℕ). take n (shapes_of after)) (sym none)

    whole_shapes : (added : List ColumnDef) → shapes_of added ≡ shapes_of (new_columns name) → shapes_of (columns_of_package d name standing ++ added) ≡ shapes_of after
    whole_shapes added same =
        shapes_joined (columns_of_package d name standing) added
        ∙ ap₂ (λ (l m : List Shape). l ++ m) (ap shapes_of package_is ∙ shapes_front b refl) (same ∙ shapes_dropped (before name) after)
        ∙ taken_dropped (before name) (shapes_of after)

    stands_by : (c : Bool) → has_table name d ≡ c → StandsAs (has_table name d) (if c then stands.Kept else stands.Added)
    stands_by true h = subst (λ x. StandsAs x stands.Kept) (sym h) tt
    stands_by false h = subst (λ x. StandsAs x stands.Added) (sym h) tt

    abbrev Result_of : TablesTold → List ColumnToAdd → Type 0
    Result_of tables cs = CanAddColumns d tables cs × Added (with_columns_added d tables cs) name
        × ((other : List ℕ) → eq_by_cmp list_cmp other name ≡ false → find list_cmp other (with_columns_added d tables cs) ≡ find list_cmp other tables)

    has_new : (tables : TablesTold) (added : List ColumnDef) → table_in_hand d tables name ≡ record { standing = standing; added = added } → shapes_of added ≡ shapes_of (new_columns name) → Added tables name
    has_new tables added table same = subst (HasNewColumns p.old p.new name) (sym table) (record { stands = stands_by b there; columns = whole_shapes added same })

    abbrev rows : List (List Value)
    rows = rows_of name

    gained : (tables : TablesTold) → table_in_hand d tables name ≡ record { standing = standing; added = [] } → has_odd_columns after ≡ false
        → Result_of tables (to_add b name (before name + 1) rows (new_columns name) gets.described)
    gained tables table odd =
        let parts = neither (nat_lt 32 (length after) || list_any (λ (c : ColumnDef). length c.name == 0) after) (has_pair bytes_eq (names_of after)) odd in
        let few : length after ≤ 32 = ltb-false 32 (length after) (neither (nat_lt 32 (length after)) (list_any (λ (c : ColumnDef). length c.name == 0) after) parts.0).0 in
        let again = taken_dropped (before name) after in
        let all = all_added d name standing (stood_by b) b (numbered_by b) (before name + 1) rows (new_columns name) gets.described tables [] front table
        (ap names_of (append-nil (columns_of_package d name standing) ∙ package_is) ∙ names_front)
        (ap (λ (n : ℕ). n + 1) front_long) (ap (λ (l : List ColumnDef). has_pair bytes_eq (names_of l)) again ∙ parts.1)
        (subst (λ (l : List ColumnDef). length l ≤ 32) (sym again) few) (keys_by b refl) in (
          all.0,
          has_new (with_columns_added d tables (to_add b name (before name + 1) rows (new_columns name) gets.described)) (columns_to_add name (before name + 1) rows (new_columns name) gets.described) all.1
              (same_shapes name (before name + 1) rows (new_columns name) gets.described),
          all.2,
        )

    none_by : (n : ℕ) (rs : List (List Value)) (cs : List ColumnDef) (are : AreDescribed name n rs cs) → cs ≡ [] → to_add b name n rs cs are ≡ []
    none_by n [] [] are h = refl
    none_by n [] (c ∷ cs) are h = refl
    none_by n (r ∷ rs) [] are h = refl
    none_by n (r ∷ rs) (c ∷ cs) are h = let long = ap (λ (l : List ColumnDef). length l) h in absurd (omega (arith, long))

    not_gained : (tables : TablesTold) → table_in_hand d tables name ≡ record { standing = standing; added = [] } → gains_columns p.old p.new name ≡ false
        → Result_of tables (to_add b name (before name + 1) rows (new_columns name) gets.described)
    not_gained tables table g =
        let few : length after ≤ before name = ltb-false (before name) (length after) g in
        let none : new_columns name ≡ [] = dropped_all (before name) after few in
        let nothing = none_by (before name + 1) rows (new_columns name) gets.described none in
        subst (Result_of tables) (sym nothing) (tt, has_new tables [] table (ap shapes_of (sym none)), (λ other h. refl))

    one_table : (tables : TablesTold) → table_in_hand d tables name ≡ record { standing = standing; added = [] } → Result_of tables (to_add b name (before name + 1) rows (new_columns name) gets.described)
    one_table tables table = by_test (gains_columns p.old p.new name)
        (λ g. gained tables table (gets.few g))
        (λ g. not_gained tables table g)

  still_begins : (n : List ℕ) (tables next : TablesTold) → ((other : List ℕ) → eq_by_cmp list_cmp other n ≡ false → find list_cmp other next ≡ find list_cmp other tables)
      → (ns : List (List ℕ)) → list_any (bytes_eq n) ns ≡ false → AllByRecursion (Begins tables) ns → AllByRecursion (Begins next) ns
  still_begins n tables next same [] apart h = tt
  still_begins n tables next same (m ∷ ms) apart h =
      let q = neither (bytes_eq n m) (list_any (bytes_eq n) ms) apart in
      (ap (λ (o : Option TableInHand). unwrap_or o (untold_table d m)) (same m (other_name m n q.0)) ∙ h.0, still_begins n tables next same ms q.1 h.1)

  columns_joined : (tables : TablesTold) (xs ys : List ColumnToAdd) → with_columns_added d tables (xs ++ ys) ≡ with_columns_added d (with_columns_added d tables xs) ys
  columns_joined tables [] ys = refl
  columns_joined tables (x ∷ xs) ys = columns_joined (with_column_added d tables x) xs ys

  can_joined : (tables : TablesTold) (xs ys : List ColumnToAdd) → CanAddColumns d tables xs → CanAddColumns d (with_columns_added d tables xs) ys → CanAddColumns d tables (xs ++ ys)
  can_joined tables [] ys h g = g
  can_joined tables (x ∷ xs) ys h g = (h.0, can_joined (with_column_added d tables x) xs ys h.1 g)

  not_among : (n : List ℕ) (ns : List (List ℕ)) → list_any (bytes_eq n) ns ≡ false → list_any (eq_by_cmp list_cmp n) ns ≡ false
  not_among n [] h = refl
  not_among n (m ∷ ms) h =
      let q = neither (bytes_eq n m) (list_any (bytes_eq n) ms) h in
      rw (names_differ n m q.0, not_among n ms q.1) refl

  abbrev AllAdded : TablesTold → List (List ℕ) → List ColumnToAdd → Type 0
  AllAdded tables names cs = CanAddColumns d tables cs × AllByRecursion (Added (with_columns_added d tables cs)) names × Others tables (with_columns_added d tables cs) names

  all_tables : (names : List (List ℕ)) (gets : AllByRecursion GetsColumns names) (tables : TablesTold) → has_pair bytes_eq names ≡ false → AllByRecursion (Begins tables) names
      → AllAdded tables names (all_adding names gets)
  all_tables [] gets tables apart begins = (tt, tt, (λ other h. refl))
  all_tables (n ∷ ns) gets tables apart begins =
      let q = neither (list_any (bytes_eq n) ns) (has_pair bytes_eq ns) apart in
      let one = one_table n gets.0 (has_table n d) refl tables begins.0 in
      let next = with_columns_added d tables (adding n gets.0.described) in
      let rest = all_tables ns gets.1 next q.1 (still_begins n tables next one.2 ns q.0 begins.1) in
      let joined = columns_joined tables (adding n gets.0.described) (all_adding ns gets.1) in
      let n_apart : list_any (eq_by_cmp list_cmp n) ns ≡ false = not_among n ns q.0 in (
        can_joined tables (adding n gets.0.described) (all_adding ns gets.1) one.0 rest.0,
        subst (λ (l : TablesTold). AllByRecursion (Added l) (n ∷ ns)) (sym joined)
            (subst (HasNewColumns p.old p.new n) (ap (λ (o : Option TableInHand). unwrap_or o (untold_table d n)) (sym (rest.2 n n_apart))) one.1, rest.1),
        (λ other h. let r = neither (eq_by_cmp list_cmp other n) (list_any (eq_by_cmp list_cmp other) ns) h in
            ap (find list_cmp other) joined ∙ rest.2 other r.1 ∙ one.2 other r.0),
      )

-- EACH TABLE IN HAND IS COMPLETE

module _ {X : Type 0} where
  found_behind : (e : List ℕ × X) (all es : List (List ℕ × X)) → T (below_all list_cmp e.0 es) → AllByRecursion (λ (f : List ℕ × X). find list_cmp f.0 all ≡ Some f.1) es
      → AllByRecursion (λ (f : List ℕ × X). find list_cmp f.0 (e ∷ all) ≡ Some f.1) es
  found_behind e all [] below h = tt
  found_behind e all (f ∷ fs) below h =
      let q = T_parts (is_lt (list_cmp e.0 f.0)) (below_all list_cmp e.0 fs) below in
      let apart : eq_by_cmp list_cmp f.0 e.0 ≡ false = (eq_by_cmp_equiv names_total).symm f.0 e.0 ∙ less (list_cmp e.0 f.0) q.0 in
      (rw apart h.0, found_behind e all fs q.1 h.1)

  pub each_found : (es : List (List ℕ × X)) → T (is_sorted list_cmp es) → AllByRecursion (λ (e : List ℕ × X). find list_cmp e.0 es ≡ Some e.1) es
  each_found [] h = tt
  each_found (e ∷ es) h =
      let q = T_parts (below_all list_cmp e.0 es) (is_sorted list_cmp es) h in
      (rw (tied_itself names_total e.0) refl, found_behind e es es q.0 (each_found es q.1))

  all_put : (Q : List ℕ → Type 0) (name : List ℕ) (x : X) (es : List (List ℕ × X)) → Q name → AllByRecursion (λ (e : List ℕ × X). Q e.0) es → AllByRecursion (λ (e : List ℕ × X). Q e.0) (put list_cmp name x es)
  all_put Q name x [] q h = (q, tt)
  all_put Q name x (e ∷ es) q h =
      elim (list_cmp name e.0) as (λ o. AllByRecursion (λ (e : List ℕ × X). Q e.0) (by_order o ((name, x) ∷ e ∷ es) ((e.0, x) ∷ es) (e ∷ put list_cmp name x es))) [
        | Less ↦ (q, h)
        | Equal ↦ h
        | Greater ↦ (h.0, all_put Q name x es q h.1)
      ]

pub at_name : (P : List ℕ → Type 0) (name : List ℕ) (names : List (List ℕ)) → AllByRecursion P names → list_any (eq_by_cmp list_cmp name) names ≡ true → P name
at_name P name [] h among = yes_is_no false among refl
at_name P name (n ∷ ns) h among = by_test (eq_by_cmp list_cmp name n)
    (λ t. subst P (sym (exact_names name n t)) h.0)
    (λ t. at_name P name ns h.1 (rw t at among))

pub passes_among : (q : List ℕ → Bool) (name : List ℕ) (names : List (List ℕ)) → list_any (eq_by_cmp list_cmp name) names ≡ true → q name ≡ true → list_any (eq_by_cmp list_cmp name) (filter q names) ≡ true
passes_among q name [] among passes = yes_is_no false among refl
passes_among q name (n ∷ ns) among passes = by_test (eq_by_cmp list_cmp name n)
    (λ t. let here : q n ≡ true = ap q (sym (exact_names name n t)) ∙ passes in rw (here, t) refl)
    (λ t. by_test (q n)
    (λ u. rw (u, t) (passes_among q name ns (rw t at among) passes))
    (λ u. rw u (passes_among q name ns (rw t at among) passes)))

module _ (p : Pair) where
  abbrev pub IsNamed : List ℕ → Type 0
  IsNamed name = list_any (eq_by_cmp list_cmp name) (told_names p.new) ≡ true

  -- a table that goes stays gone
  abbrev pub IsGone : TablesTold → List ℕ → Type 0
  IsGone final name = find list_cmp name final ≡ Some (record { standing = stands.Gone; added = [] })

  abbrev pub IsKnown : TablesTold → List ℕ → Type 0
  IsKnown final name = IsNamed name ⊎ IsGone final name

  pub record AreNamed (final tables : TablesTold) : Type 0 where
    pub sorted : T (is_sorted list_cmp tables)
    pub each : AllByRecursion (λ (e : List ℕ × TableInHand). IsKnown final e.0) tables

  module _ (final : TablesTold) where
    named_put : (name : List ℕ) (table : TableInHand) (tables : TablesTold) → IsKnown final name → AreNamed final tables → AreNamed final (put list_cmp name table tables)
    named_put name table tables is are = record { sorted = is_sorted-put list_cmp names_total name table tables are.sorted; each = all_put (IsKnown final) name table tables is are.each }

    named_tables : (tables : TablesTold) (names : List (List ℕ)) → AllByRecursion IsNamed names → AreNamed final tables → AreNamed final (with_tables_added tables names)
    named_tables tables [] h are = are
    named_tables tables (n ∷ ns) h are = named_tables (with_table_added tables n) ns h.1 (named_put n (record { standing = stands.Added; added = [] }) tables (inl h.0) are)

    gone_tables : (tables : TablesTold) (names : List (List ℕ)) → AllByRecursion (IsGone final) names → AreNamed final tables → AreNamed final (with_tables_removed tables names)
    gone_tables tables [] h are = are
    gone_tables tables (n ∷ ns) h are = gone_tables (with_table_removed tables n) ns h.1 (named_put n (record { standing = stands.Gone; added = [] }) tables (inr h.0) are)

    named_columns : (tables : TablesTold) (cs : List ColumnToAdd) → AllByRecursion (λ (c : ColumnToAdd). IsNamed c.table) cs → AreNamed final tables → AreNamed final (with_columns_added p.old.database tables cs)
    named_columns tables [] h are = are
    named_columns tables (c ∷ cs) h are = named_columns (with_column_added p.old.database tables c) cs h.1 (named_put c.table _ tables (inl h.0) are)

  named_to_add : (kept : Bool) (table : List ℕ) (n : ℕ) (rows : List (List Value)) (cs : List ColumnDef) (are : AreDescribed table n rows cs) → IsNamed table
      → AllByRecursion (λ (c : ColumnToAdd). IsNamed c.table) (to_add kept table n rows cs are)
  named_to_add kept table n [] [] are is = tt
  named_to_add kept table n [] (c ∷ cs) are is = tt
  named_to_add kept table n (row ∷ rs) [] are is = tt
  named_to_add kept table n (row ∷ rs) (c ∷ cs) are is = (is, named_to_add kept table (n + 1) rs cs are.1 is)

  joined_named : (xs ys : List ColumnToAdd) → AllByRecursion (λ (c : ColumnToAdd). IsNamed c.table) xs → AllByRecursion (λ (c : ColumnToAdd). IsNamed c.table) ys → AllByRecursion (λ (c : ColumnToAdd). IsNamed c.table) (xs ++ ys)
  joined_named [] ys h g = g
  joined_named (x ∷ xs) ys h g = (h.0, joined_named xs ys h.1 g)

  named_all : (names : List (List ℕ)) (gets : AllByRecursion (GetsColumns p) names) → AllByRecursion IsNamed names → AllByRecursion (λ (c : ColumnToAdd). IsNamed c.table) (all_adding p names gets)
  named_all [] gets h = tt
  named_all (n ∷ ns) gets h = joined_named (adding p n gets.0.described) (all_adding p ns gets.1)
      (named_to_add (has_table n p.old.database) n (before p n + 1) (rows_of p n) (new_columns p n) gets.0.described h.0) (named_all ns gets.1 h.1)

  complete_by : (name : List ℕ) (table : TableInHand) (standing : Standing) → table.standing ≡ standing → HasNewColumns p.old p.new name table → has_key (columns_in_table p.new name) ≡ true → is_complete table ≡ true
  complete_by name table stands.Kept at has key = ap (λ (s : Standing). not (is_added s) || has_key table.added) at
  complete_by name table (stands.Found next) at has key = ap (λ (s : Standing). not (is_added s) || has_key table.added) at
  complete_by name table stands.Gone at has key = ap (λ (s : Standing). not (is_added s) || has_key table.added) at
  complete_by name table stands.Added at has key =
      let same : shapes_of table.added ≡ shapes_of (columns_in_table p.new name) = ap (λ (s : Standing). shapes_of (columns_of_package p.old.database name s ++ table.added)) (sym at) ∙ has.columns in
      ap (λ (s : Standing). not (is_added s) || has_key table.added) at
      ∙ key_shapes table.added ∙ ap (λ (l : List Shape). list_any (λ (s : Shape). s.is_key) l) same ∙ sym (key_shapes (columns_in_table p.new name)) ∙ key

  module _ (final : TablesTold) (has : AllByRecursion (λ name. HasNewColumns p.old p.new name (table_in_hand p.old.database final name)) (told_names p.new))
      (keys : AllByRecursion (λ name. has_key (columns_in_table p.new name) ≡ true) (told_names p.new)) where
    known_complete : (name : List ℕ) (table : TableInHand) → find list_cmp name final ≡ Some table → IsKnown final name → is_complete table ≡ true
    known_complete name table found (inl named) =
        let here = at_name (λ name. HasNewColumns p.old p.new name (table_in_hand p.old.database final name)) name (told_names p.new) has named in
        let is : table_in_hand p.old.database final name ≡ table = ap (λ (o : Option TableInHand). unwrap_or o (untold_table p.old.database name)) found in
        complete_by name table table.standing refl (subst (HasNewColumns p.old p.new name) is here) (at_name (λ name. has_key (columns_in_table p.new name) ≡ true) name (told_names p.new) keys named)
    known_complete name table found (inr gone) =
        let is : record { standing = stands.Gone; added = [] } ≡ table = some_is (record { standing = stands.Gone; added = [] }) table (sym gone ∙ found) in
        ap is_complete (sym is)

    each_complete : (es : TablesTold) → AllByRecursion (λ (e : List ℕ × TableInHand). IsKnown final e.0) es → AllByRecursion (λ (e : List ℕ × TableInHand). find list_cmp e.0 final ≡ Some e.1) es
        → list_all (λ (e : List ℕ × TableInHand). is_complete e.1) es ≡ true
    each_complete [] named found = refl
    each_complete (e ∷ es) named found = rw (known_complete e.0 e.1 found.0 named.0) (each_complete es named.1 found.1)

    all_complete : AreNamed final final → list_all (λ (e : List ℕ × TableInHand). is_complete e.1) final ≡ true
    all_complete are = each_complete final are.each (each_found final are.sorted)

-- THE SCHEMA OF A TRANSFORM THAT IS MADE

-- columns that say the same as records with good texts
good_columns : (good : List ℕ → Bool) (rs : List ToldRecord) (cs : List ColumnToAdd) → map action_and_values rs ≡ map action_and_values (map record_of_column cs)
    → AllByRecursion (λ (r : ToldRecord). AreGood good r.values) rs → AllByRecursion (λ (c : ColumnToAdd). AreGood good (row_of c)) cs
good_columns good [] [] same h = tt
good_columns good [] (c ∷ cs) same h = absurd cc
good_columns good (r ∷ rs) [] same h = absurd cc
good_columns good (r ∷ rs) (c ∷ cs) same h = (
  subst (λ (q : Action × List Value). AreGood good q.1) (same_head (action_and_values r) (action_and_values (record_of_column c)) (map action_and_values rs) (map action_and_values (map record_of_column cs)) same) h.0,
  good_columns good rs cs (same_tail (action_and_values r) (action_and_values (record_of_column c)) (map action_and_values rs) (map action_and_values (map record_of_column cs)) same) h.1,
)

schema_unrefused : (tables columns : Bool) → tables ≡ true → columns ≡ true → first_refusal ((not tables, InvalidData) ∷ (not columns, InvalidData) ∷ []) ≡ None
schema_unrefused tables columns t c = rw (t, c) refl

complete_unrefused : (complete : Bool) → complete ≡ true → first_refusal ((not complete, InvalidData) ∷ []) ≡ None
complete_unrefused complete c = rw c refl

none_filtered : (m : List ℕ) (q : List ℕ → Bool) (xs : List (List ℕ)) → list_any (eq_by_cmp list_cmp m) xs ≡ false → list_any (eq_by_cmp list_cmp m) (filter q xs) ≡ false
none_filtered m q [] h = refl
none_filtered m q (x ∷ xs) h =
    let r = neither (eq_by_cmp list_cmp m x) (list_any (eq_by_cmp list_cmp m) xs) h in
    by_test (q x) (λ b. rw (b, r.0) (none_filtered m q xs r.1)) (λ b. rw b (none_filtered m q xs r.1))

-- records that say the same as some, and as others behind them
abbrev Split : TransformDef → List ToldRecord → List ToldRecord → List Record → Type 0
Split t xs ys stored = (qs : List Record) × (rs : List Record) × (stored ≡ qs ++ rs) × SaySame t xs qs × SaySame t ys rs

split_says : (t : TransformDef) (xs ys : List ToldRecord) (stored : List Record) → SaySame t (xs ++ ys) stored → Split t xs ys stored
split_says t [] ys stored says = ([], stored, refl, refl, says)
split_says t (x ∷ xs) ys [] says = absurd cc
split_says t (x ∷ xs) ys (q ∷ stored) says =
    let first : as_values t q ≡ action_and_values x = cc in
    let others : map (as_values t) stored ≡ map action_and_values (xs ++ ys) = cc in
    let (qs, rs, whole_stored, one, two) = split_says t xs ys stored others in
    (q ∷ qs, rs, ap (λ (l : List Record). q ∷ l) whole_stored, (λ i. first i ∷ one i), two)

module _ (p : Pair) (t : TransformDef) (is : made p ≡ Ok t) (can : CanHaveRecords p) (adds : TablesCanChange p) where
  abbrev old : Database
  old = p.old.database

  abbrev names : List (List ℕ)
  names = map (λ t. t.0) p.new.database.tables

  odd : AllByRecursion (λ name. is_odd_table p.new name ≡ false) (told_names p.new)
  odd = none_passes (is_odd_table p.new) (told_names p.new) (both_fit p t is).1

  new_keys : AllByRecursion (λ name. has_key (columns_in_table p.new name) ≡ true) (told_names p.new)
  new_keys = all_of (told_names p.new) odd (all_there p.new)
    where
      all_of : (ns : List (List ℕ)) → AllByRecursion (λ name. is_odd_table p.new name ≡ false) ns → AllByRecursion (λ name. has_table name p.new.database ≡ true) ns
          → AllByRecursion (λ name. has_key (columns_in_table p.new name) ≡ true) ns
      all_of [] h there = tt
      all_of (n ∷ ns) h there = (
        (broken_parts (has_key (columns_in_table p.new n)) (list_any is_key_of_streams (columns_in_table p.new n))
            (have_own_keys p.new.database.pool.places (columns_in_table p.new n) (system_rows p.new.database n)) (whole p.new n h.0 there.0)).0,
        all_of ns h.1 there.1,
      )

  gets_columns : AllByRecursion (GetsColumns p) (told_names p.new)
  gets_columns = all_of (told_names p.new) adds.described adds.names can.tellable (no_table_reason p t is)
    where
      all_of : (ns : List (List ℕ)) → AllByRecursion (NewColumnsAreDescribed p) ns → AllByRecursion (ColumnsKeepNames p) ns → AllByRecursion (IsTellable p.old p.new) ns
          → AllByRecursion (λ name. (gains_columns p.old p.new name && has_odd_columns (columns_in_table p.new name)) ≡ false) ns → AllByRecursion (GetsColumns p) ns
      all_of [] d k t r = tt
      all_of (n ∷ ns) d k t r = (record { described = d.0; names = k.0; tellable = t.0; few = λ g. rw g at r.0 }, all_of ns d.1 k.1 t.1 r.1)

  -- the two lists are no new tables
  system_old : (name : List ℕ) → is_schema_table name ≡ true → has_table name old ≡ true
  system_old name h = elim (or_cases (bytes_eq name tables_name) (bytes_eq name columns_name) h) [
    | inl b ↦ ap (λ (n : List ℕ). has_table n old) ((bytes_decides name tables_name).0 b) ∙ adds.lists
    | inr b ↦ ap (λ (n : List ℕ). has_table n old) ((bytes_decides name columns_name).0 b) ∙ adds.describes
  ]

  may_come : (ns : List (List ℕ)) → AllByRecursion (λ name. is_odd_table p.new name ≡ false) (filter (λ name. not (is_schema_table name)) ns)
      → AllByRecursion (λ name. is_unlisted old name ≡ false) (filter (λ name. not (is_schema_table name)) ns) → AllByRecursion (MayCome old) ns
  may_come [] h u = tt
  may_come (n ∷ ns) h u = by_test (is_schema_table n)
      (λ b. ((λ new. yes_is_no (has_table n old) (system_old n b) (not_true (has_table n old) new)), may_come ns (rw b at h) (rw b at u)))
      (λ b. let g = rw b at h in let v = rw b at u in
      ((λ new. (not_false (is_name_to_list n) (neither (not (is_name_to_list n)) (has_table n p.new.database && is_broken p.new.database (columns_in_table p.new n) (system_rows p.new.database n)) g.0).0, v.0)), may_come ns g.1 v.1))

  pub come_named : (ns : List (List ℕ)) → AllByRecursion (λ name. list_any (eq_by_cmp list_cmp name) names ≡ true) ns → AllByRecursion (IsNamed p) (filter (is_new old) ns)
  come_named [] h = tt
  come_named (n ∷ ns) h = by_test (is_new old n)
      (λ b. rw b (passes_among (λ name. not (is_schema_table name)) n names h.0 (plain_new n b), come_named ns h.1))
      (λ b. rw b (come_named ns h.1))
    where
      plain_new : (n : List ℕ) → is_new old n ≡ true → not (is_schema_table n) ≡ true
      plain_new n b = by_test (is_schema_table n) (λ s. yes_is_no (has_table n old) (system_old n s) (not_true (has_table n old) b)) (λ s. ap not s)

  told_named : AllByRecursion (IsNamed p) (told_names p.new)
  told_named = each_among (told_names p.new)

  abbrev old_names : List (List ℕ)
  old_names = map (λ t. t.0) old.tables

  abbrev goes : List ℕ → Bool
  goes name = not (has_table name p.new.database)

  abbrev gone : List (List ℕ)
  gone = names_beside old p.new.database

  -- none of the new package's tables goes
  stays_by : (name : List ℕ) → has_table name p.new.database ≡ true → (ns : List (List ℕ)) → list_any (eq_by_cmp list_cmp name) (filter goes ns) ≡ false
  stays_by name there [] = refl
  stays_by name there (n ∷ ns) = by_test (goes n)
      (λ b. by_test (eq_by_cmp list_cmp name n)
      (λ t. yes_is_no (has_table name p.new.database) there (ap (λ (m : List ℕ). has_table m p.new.database) (exact_names name n t) ∙ not_true (has_table n p.new.database) b))
      (λ t. rw (b, t) (stays_by name there ns)))
      (λ b. rw b (stays_by name there ns))

  abbrev without_gone : TablesTold
  without_gone = with_tables_removed [] gone

  not_gone_yet : (name : List ℕ) → has_table name p.new.database ≡ true → find list_cmp name without_gone ≡ None
  not_gone_yet name there = found_removed name [] gone ∙ ap (λ b. cond b (Some (record { standing = stands.Gone; added = [] })) None) (stays_by name there old_names)

  new_there : (ns : List (List ℕ)) → AllByRecursion (λ name. list_any (eq_by_cmp list_cmp name) names ≡ true) ns → AllByRecursion (λ name. has_table name p.new.database ≡ true) ns
  new_there [] h = tt
  new_there (n ∷ ns) h = (is_some-find list_cmp n p.new.database.tables ∙ h.0, new_there ns h.1)

  all_absent : (ns : List (List ℕ)) → AllByRecursion (λ name. has_table name p.new.database ≡ true) ns → AreAbsent old without_gone ns
  all_absent [] h = tt
  all_absent (n ∷ ns) h = (not_gone_yet n h.0, all_absent ns h.1)

  begins : (ns : List (List ℕ)) → AllByRecursion (λ name. list_any (eq_by_cmp list_cmp name) names ≡ true) ns → AllByRecursion (Begins p (with_tables_added without_gone (filter (is_new old) names))) ns
  begins [] h = tt
  begins (n ∷ ns) h = (in_hand_then old without_gone n names (not_gone_yet n (is_some-find list_cmp n p.new.database.tables ∙ h.0)) h.0, begins ns h.1)

  pub system_new : (name : List ℕ) → is_schema_table name ≡ true → has_table name p.new.database ≡ true
  system_new name h = elim (or_cases (bytes_eq name tables_name) (bytes_eq name columns_name) h) [
    | inl b ↦ ap (λ (n : List ℕ). has_table n p.new.database) ((bytes_decides name tables_name).0 b) ∙ adds.lists_too
    | inr b ↦ ap (λ (n : List ℕ). has_table n p.new.database) ((bytes_decides name columns_name).0 b) ∙ adds.describes_too
  ]

  may_go : (ns : List (List ℕ)) → AllByRecursion (λ name. is_odd_table p.old name ≡ false) (filter (λ name. not (is_schema_table name)) ns)
      → AllByRecursion (λ name. list_any (eq_by_cmp list_cmp name) old_names ≡ true) ns → AllByRecursion (MayGo old goes) ns
  may_go [] h there = tt
  may_go (n ∷ ns) h there = by_test (is_schema_table n)
      (λ b. ((λ g. yes_is_no (has_table n p.new.database) (system_new n b) (not_true (has_table n p.new.database) g)), may_go ns (rw b at h) there.1))
      (λ b. let g = rw b at h in
      ((λ u. (not_false (is_name_to_list n) (neither (not (is_name_to_list n)) (has_table n old && is_broken old (columns_in_table p.old n) (system_rows old n)) g.0).0, is_some-find list_cmp n old.tables ∙ there.0)), may_go ns g.1 there.1))

  told_among : AllByRecursion (λ name. list_any (eq_by_cmp list_cmp name) names ≡ true) (told_names p.new)
  told_among = all_passing (λ name. list_any (eq_by_cmp list_cmp name) names ≡ true) (λ name. not (is_schema_table name)) names (each_among names)

  apart_told : has_pair bytes_eq (told_names p.new) ≡ false
  apart_told = apart_passing (λ n. not (is_schema_table n)) names can.apart

  module _ (takes : TakenPlacesHoldTheirText) (gives : GivenBackTakesOne) (passing : ErrorConditions) (beside : Uses) (counts : CountsSchema (λ n. cells_gone p n + beside n) (schema_begun old))
      (fits : length old.pool.places + texts_of_schema p ≤ 16777215) where
    abbrev change : SchemaChange
    change = change_with p.old t passing

    abbrev begun : SchemaInHand
    begun = schema_begun old

    abbrev come : List (List ℕ)
    come = names_beside p.new.database old

    abbrev with_come : TablesTold
    with_come = with_tables_added without_gone come

    abbrev adding_all : List ColumnToAdd
    adding_all = all_adding p (told_names p.new) gets_columns

    columns_all : AllAdded p with_come (told_names p.new) adding_all
    columns_all = all_tables p (told_names p.new) gets_columns with_come apart_told (begins (told_names p.new) told_among)

    abbrev final : TablesTold
    final = with_columns_added old with_come adding_all

    -- where the texts that come are good, and those that are left once the tables that go are gone, so are those in the end
    abbrev pub StaysGood : SchemaInHand → Type 0
    StaysGood after = (good : List ℕ → Bool) (rest : Uses) → AllByRecursion (λ name. good name ≡ true) come
        → AllByRecursion (λ (r : ToldRecord). AreGood good r.values) (flat_map (records_of_columns p.old p.new) (told_names p.new))
        → ((mid : SchemaInHand) → Went old beside gone begun mid → HoldsGood good rest mid.pool.places) → HoldsGood good rest after.pool.places

    -- and where the places count just the cells of the rows that are left then, which list and describe no other tables and columns than
    -- those that stay, they count just the cells of all rows in the end
    abbrev pub most_columns : List ℕ → ℕ
    most_columns table = if has_table table p.new.database then length (columns_in_table p.old table) else 0

    abbrev pub DescribesOnly : SchemaInHand → Type 0
    DescribesOnly mid = (table : List ℕ) (number : ℕ) → most_columns table < number → find key_cmp (column_key table number) mid.described ≡ None

    abbrev pub IsLeftExactly : Type 0
    IsLeftExactly = (mid : SchemaInHand) → Went old beside gone begun mid → AllByRecursion (IsAbsent mid.listed) come × DescribesOnly mid × IsExactly beside mid

    hand_long : (table : List ℕ) (c : Bool) → has_table table old ≡ c → length (columns_in_table p.old table) ≤ length (columns_of_package old table (if c then stands.Kept else stands.Added) ++ [])
    hand_long table true there = let same = ap (λ (l : List ColumnDef). length l) (append-nil (columns_in_table p.old table)) in omega (arith, same)
    hand_long table false there =
        let none = ap (λ (o : Option TableCells). length (unwrap_or (option_map (λ (t : TableCells). t.columns) o) [])) (none_there (table_at table old) there) in omega (arith, none)

    most_in_hand : (table : List ℕ) (b : Bool) → has_table table p.new.database ≡ b → (if b then length (columns_in_table p.old table) else 0) ≤ length (columns_in_hand old table (table_in_hand old with_come table))
    most_in_hand table true there =
        let hand = in_hand_then old without_gone table names (not_gone_yet table there) (sym (is_some-find list_cmp table p.new.database.tables) ∙ there) in
        let long = ap (λ (u : TableInHand). length (columns_in_hand old table u)) hand in
        omega (arith, long, hand_long table (has_table table old) refl)
    most_in_hand table false there = omega arith

    no_more_described : (mid u : SchemaInHand) → DescribesOnly mid → u.described ≡ mid.described → u.tables ≡ with_come → DescribesNoMore old u
    no_more_described mid u only same tables table number less =
        let less_now : length (columns_in_hand old table (table_in_hand old with_come table)) < number =
        subst (λ (l : TablesTold). length (columns_in_hand old table (table_in_hand old l table)) < number) tables less in
        ap (find key_cmp (column_key table number)) same ∙ only table number (omega (arith, less_now, most_in_hand table (has_table table p.new.database) refl))

    first_list : (s : SchemaInHand) × (records_applied t tables_name tables_columns (table_record_applied change) begun ≡ Ok s) × SchemaAfter beside with_come (length come) begun s × StaysGood s
        × (IsLeftExactly → DescribesNoMore old s × IsExactly beside s)
    first_list =
        let (stored, says, applies) = by_stored t (list_of_tables p) tables_columns refl (read_tables p t is can).0 (absent_tables p t is can) (table_record_applied change) begun in
        let number = number_of t tables_name in
        let (qs, rs, whole_stored, says_gone, says_come) = split_says t (map (listing_record Remove) gone) (map (listing_record (Add 1)) come) stored says in
        let (s, ran, are, went) = removals takes gives change beside number 0 gone begun qs says_gone
        (can_go old goes [] old_names adds.apart (may_go old_names (none_passes (is_odd_table p.old) (told_names p.old) (both_fit p t is).0) (each_among old_names)) (none_absent old old_names)) counts in
        let (u, ran_too, are_too, stays, exact) = listings takes gives change beside number (0 + length qs) come s rs says_come
        (subst (λ (l : TablesTold). CanAddTables old l come) (sym are.tables) (can_come old without_gone names can.apart (may_come names odd adds.unlisted) (all_absent names (new_there names (each_among names)))))
        are.counted (omega (arith, fits, are.longer)) in (
          u,
          applies u (ap (in_turn_from number (table_record_applied change name_shapes) 0 begun) whole_stored ∙ joined_applied number 0 (table_record_applied change name_shapes) begun s u qs rs ran ran_too),
          record {
            tables = are_too.tables ∙ ap (λ (l : TablesTold). with_tables_added l come) are.tables;
            counted = are_too.counted;
            kept = λ n some. are_too.kept n some ∙ are.kept n some;
            longer = omega (arith, are.longer, are_too.longer);
          },
          (λ good rest names_good records_good holds. stays good rest names_good (holds s went)),
          (λ left.
              let (absent, only, exactly) = left s went in
              let (exactly_too, same) = exact absent (apart_passing (is_new old) names can.apart) exactly in
              (no_more_described s u only same (are_too.tables ∙ ap (λ (l : TablesTold). with_tables_added l come) are.tables), exactly_too)),
        )

    second_list : (s : SchemaInHand) → s.tables ≡ with_come → CountsSchema beside s → length s.pool.places + texts_of_columns adding_all ≤ 16777215
        → (u : SchemaInHand) × (records_applied t columns_name columns_columns (column_record_applied change) s ≡ Ok u) × SchemaAfter beside (with_columns_added old s.tables adding_all) (texts_of_columns adding_all) s u
        × ((good : List ℕ → Bool) (rest : Uses) → AllByRecursion (λ (r : ToldRecord). AreGood good r.values) (flat_map (records_of_columns p.old p.new) (told_names p.new)) → HoldsGood good rest s.pool.places
        → HoldsGood good rest u.pool.places)
        × (DescribesNoMore old s → IsExactly beside s → IsExactly beside u)
    second_list s tables now room =
        let (stored, says, applies) = by_stored t (list_of_columns p) columns_columns refl (read_tables p t is can).1 (absent_columns p t is can) (column_record_applied change) s in
        let (u, ran, are, stays, exact) = columns_put takes gives change beside (number_of t columns_name) 0 adding_all s stored (says ∙ same_in_all p (told_names p.new) gets_columns)
        (subst (λ (l : TablesTold). CanAddColumns old l adding_all) (sym tables) columns_all.0) now room in (
          u,
          applies u ran,
          are,
          (λ good rest records_good holds.
              stays good rest (good_columns good (flat_map (records_of_columns p.old p.new) (told_names p.new)) adding_all (same_in_all p (told_names p.new) gets_columns) records_good) holds),
          exact,
        )

    -- a table that goes is gone in the end
    one_gone : (m : List ℕ) → goes m ≡ true → list_any (eq_by_cmp list_cmp m) gone ≡ true → IsGone p final m
    one_gone m g among =
        let absent : list_any (eq_by_cmp list_cmp m) names ≡ false = sym (is_some-find list_cmp m p.new.database.tables) ∙ not_true (has_table m p.new.database) g in
        columns_all.2 m (none_filtered m (λ name. not (is_schema_table name)) names absent)
        ∙ found_added old m without_gone come
        ∙ ap (λ b. cond b (Some (record { standing = stands.Added; added = [] })) (find list_cmp m without_gone)) (none_filtered m (is_new old) names absent)
        ∙ found_removed m [] gone ∙ ap (λ b. cond b (Some (record { standing = stands.Gone; added = [] })) None) among

    all_gone : (ms : List (List ℕ)) → AllByRecursion (λ name. goes name ≡ true) ms → AllByRecursion (λ name. list_any (eq_by_cmp list_cmp name) gone ≡ true) ms → AllByRecursion (IsGone p final) ms
    all_gone [] g among = tt
    all_gone (m ∷ ms) g among = (one_gone m g.0 among.0, all_gone ms g.1 among.1)

    pub whole_schema_good : (schema : SchemaInHand) × (schema_changed change ≡ Ok schema)
        × AllByRecursion (λ name. HasNewColumns p.old p.new name (table_in_hand old schema.tables name)) (told_names p.new)
        × SchemaAfter beside schema.tables (texts_of_schema p) begun schema × AreNamed p schema.tables schema.tables × AllByRecursion (IsGone p schema.tables) gone × StaysGood schema × (IsLeftExactly → IsExactly beside schema)
    whole_schema_good =
        let few = few_in_all p (told_names p.new) gets_columns in
        let (s, ran, are, stays, exact) = first_list in
        let (u, ran_too, are_too, stays_too, exact_too) = second_list s are.tables are.counted (omega (arith, fits, few, are.longer)) in
        let tables : u.tables ≡ final = are_too.tables ∙ ap (λ (l : TablesTold). with_columns_added old l adding_all) are.tables in
        let gone_then = all_gone gone (each_passing goes old_names) (each_among gone) in
        let named = named_columns p final with_come adding_all (named_all p (told_names p.new) gets_columns told_named)
        (named_tables p final without_gone come (come_named names (each_among names)) (gone_tables p final [] gone gone_then (record { sorted = tt; each = tt }))) in
        let complete : are_complete u ≡ true = ap (list_all (λ (e : List ℕ × TableInHand). is_complete e.1)) tables ∙ all_complete p final columns_all.1 new_keys named in (
          u,
          ap (λ (o : Option ErrorKind). nowhere (unless o begun) >>= records_applied t tables_name tables_columns (table_record_applied change) >>= records_applied t columns_name columns_columns (column_record_applied change)
              >>= λ s. nowhere (unless (first_refusal (complete_refusals s)) s))
              (schema_unrefused (have_own_keys old.pool.places tables_columns (system_rows old tables_name)) (have_own_keys old.pool.places columns_columns (system_rows old columns_name)) adds.own_tables adds.own_columns)
              ∙ ap (λ (r : Result SchemaInHand Refusal). r >>= records_applied t columns_name columns_columns (column_record_applied change) >>= λ s. nowhere (unless (first_refusal (complete_refusals s)) s)) ran
              ∙ ap (λ (r : Result SchemaInHand Refusal). r >>= λ s. nowhere (unless (first_refusal (complete_refusals s)) s)) ran_too
              ∙ ap (λ (o : Option ErrorKind). nowhere (unless o u)) (complete_unrefused (are_complete u) complete),
          subst (λ (l : TablesTold). AllByRecursion (λ name. HasNewColumns p.old p.new name (table_in_hand old l name)) (told_names p.new)) (sym tables) columns_all.1,
          record {
            tables = refl;
            counted = are_too.counted;
            kept = λ n some. are_too.kept n some ∙ are.kept n some;
            longer = omega (arith, are.longer, are_too.longer, few);
          },
          subst (λ (l : TablesTold). AreNamed p l l) (sym tables) named,
          subst (λ (l : TablesTold). AllByRecursion (IsGone p l) gone) (sym tables) gone_then,
          (λ good rest names_good records_good holds. stays_too good rest records_good (stays good rest names_good records_good holds)),
          (λ left. let (no_more, exactly) = exact left in exact_too no_more exactly),
        )

    pub whole_schema_gone : (schema : SchemaInHand) × (schema_changed change ≡ Ok schema)
        × AllByRecursion (λ name. HasNewColumns p.old p.new name (table_in_hand old schema.tables name)) (told_names p.new)
        × SchemaAfter beside schema.tables (texts_of_schema p) begun schema × AreNamed p schema.tables schema.tables × AllByRecursion (IsGone p schema.tables) gone
    whole_schema_gone = let (schema, ran, columns, are, named, none, stays, exact) = whole_schema_good in (schema, ran, columns, are, named, none)

    pub whole_schema : (schema : SchemaInHand) × (schema_changed change ≡ Ok schema)
        × AllByRecursion (λ name. HasNewColumns p.old p.new name (table_in_hand old schema.tables name)) (told_names p.new)
        × SchemaAfter beside schema.tables (texts_of_schema p) begun schema × AreNamed p schema.tables schema.tables
    whole_schema = let (schema, ran, columns, are, named, none, stays, exact) = whole_schema_good in (schema, ran, columns, are, named)

pub made_schema_is_new : TakenPlacesHoldTheirText → GivenBackTakesOne → MadeSchemaIsNew
made_schema_is_new takes gives p t passing others is can adds counts fits =
    let (schema, ran, columns, are, named) = whole_schema p t is can adds takes gives passing others counts fits in (schema, ran, columns, are)
