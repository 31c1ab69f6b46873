-- Packages whose `_Columns` describes the columns of their tables.
use Rattle.std.proofs.Common.{◌≡◌, ℕ, zero, suc, ◌+◌, Bool, true, false, not, ◌&&◌, T, List, [], ◌∷◌, length, map, filter, drop, take, refl, sym, ap, subst, ◌∙◌, arith}
use Rattle.std.specs.Prelude.{pos, Option, Some, None, is_some, option_map, unwrap_or, bytes_eq, ◌==◌}
use Rattle.std.specs.FinMap.{find, is_sorted}
use Rattle.std.specs.FinMap.Entries.{below_all}
use Rattle.std.specs.List.{AllByRecursion, list_all, list_any}
use Rattle.std.specs.Ordering.{eq_by_cmp, is_lt}
use Rattle.std.proofs.lemmas.Bool.{and_parts, eqb-true}
use Rattle.std.proofs.lemmas.Map.Text.{is_eq-slice_cmp}
use Rattle.msi_base.specs.Lists.{has_pair, list_cmp}
use Rattle.msi_base.proofs.BoolLemmas.{T_parts, by_test, yes_is_no}
use Rattle.msi_base.proofs.ListLemmas.{none_passes}
use Rattle.msi_base.proofs.OptionLemmas.{none_is, none_there, some_is}
use Rattle.msi_table_cells.specs.declared.cell.ValueRef.{ValueRef}
use Rattle.msi_table_cells.specs.TableCells.{TableCells}
use Rattle.msi_table_values.specs.declared.value.Value.{Value}
use Rattle.msi_table_values.specs.declared.value.Value.TheVariants.{Null, Int, Str}
use Rattle.msi_table_values.specs.Columns.{ColumnDef}
use Rattle.msi_database_schema.specs.System.{is_schema_table}
use Rattle.msi_database_changes.specs.Database.{Tables, has_table, is_well_formed, names_are_numbers, rows_of, table_at, table_is_full}
use Rattle.msi_database_storage.specs.Kept.{Kept}
use Rattle.msi_transform.specs.Transforms.{shapes_of}
use Rattle.msi_transform_schema.specs.SchemaApplying.{have_own_keys, system_rows}
use Rattle.msi_transform_schema.specs.SchemaChanges.{column_told}
use Rattle.msi_transform_making.specs.Making.{Pair, begin_alike, columns_before, columns_in_table, described_columns, is_odd_table, keeps_columns, same_row, told_names}
use Rattle.msi_transform_laws.specs.CarriedOut.{HasWholeRows, IsTellable, is_key_of_streams}
use Rattle.msi_transform_laws.specs.DescribedPackages.{ColumnsAreDescribed, DescribedTablesCanHaveRecords}
use Rattle.msi_transform_laws.specs.SchemaMade.{AreDescribed, ColumnsKeepNames, Describes, NewColumnsAreDescribed, shape_of}
use Rattle.msi_transform_laws.proofs.AddedColumnsLemmas.{names_of}
use Rattle.msi_transform_laws.proofs.CarriedOutLemmas.{less, same}
use Rattle.msi_transform_laws.proofs.FitPackagesLemmas.{both_fit, no_changed_columns}
use Rattle.msi_transform_laws.proofs.RowsBegunLemmas.{has_key}
use Rattle.msi_transform_laws.proofs.TableChangedLemmas.{all_there, broken_parts, whole}

-- WELL-FORMED DATABASES

none_like : (name : List ℕ) (es : Tables) → T (below_all list_cmp name es) → list_any (bytes_eq name) (map (λ (e : List ℕ × TableCells). e.0) es) ≡ false
none_like name [] h = refl
none_like name (e ∷ es) h =
    let q = T_parts (is_lt (list_cmp name e.0)) (below_all list_cmp name es) h in
    let apart : bytes_eq name e.0 ≡ false = sym (is_eq-slice_cmp name e.0) ∙ less (list_cmp name e.0) q.0 in
    rw (apart, none_like name es q.1) refl

pub apart_sorted : (es : Tables) → T (is_sorted list_cmp es) → has_pair bytes_eq (map (λ (e : List ℕ × TableCells). e.0) es) ≡ false
apart_sorted [] h = refl
apart_sorted (e ∷ es) h =
    let q = T_parts (below_all list_cmp e.0 es) (is_sorted list_cmp es) h in
    rw (none_like e.0 es q.0, apart_sorted es q.1) refl

full_at : (name : List ℕ) (t : TableCells) (es : Tables) → find list_cmp name es ≡ Some t → list_all table_is_full es ≡ true → list_all (λ (row : List ValueRef). length row == length t.columns) (rows_of t) ≡ true
full_at name t [] found full = none_is found
full_at name t (e ∷ es) found full =
    let q = and_parts (table_is_full e) (list_all table_is_full es) full in
    by_test (eq_by_cmp list_cmp name e.0)
    (λ b. subst (λ (u : TableCells). list_all (λ (row : List ValueRef). length row == length u.columns) (rows_of u) ≡ true) (some_is e.1 t (rw b at found)) q.0)
    (λ b. full_at name t es (rw b at found) q.1)

all_long : (n : ℕ) (rows : List (List ValueRef)) → list_all (λ (row : List ValueRef). length row == n) rows ≡ true → AllByRecursion (λ (row : List ValueRef). length row ≡ n) rows
all_long n [] h = tt
all_long n (row ∷ rows) h = let q = and_parts (length row == n) (list_all (λ (row : List ValueRef). length row == n) rows) h in (eqb-true (length row) n q.0, all_long n rows q.1)

true_is : (b : Bool) → b ≡ true → T b
true_is true h = tt
true_is false h = absurd (yes_is_no false h refl)

module _ (k : Kept) (well : is_well_formed k.database ≡ true) where
  well_parts : (T (is_sorted list_cmp k.database.tables)) × (list_all table_is_full k.database.tables ≡ true)
  well_parts =
      let one = and_parts (names_are_numbers k.database && is_sorted list_cmp k.database.tables) (list_all table_is_full k.database.tables) well in
      (true_is (is_sorted list_cmp k.database.tables) (and_parts (names_are_numbers k.database) (is_sorted list_cmp k.database.tables) one.0).1, one.1)

  whole_rows : (name : List ℕ) → has_table name k.database ≡ true → HasWholeRows k name
  whole_rows name there = by_table (table_at name k.database) refl there
    where
      by_table : (o : Option TableCells) → table_at name k.database ≡ o → is_some o ≡ true
          → AllByRecursion (λ (row : List ValueRef). length row ≡ length (unwrap_or (option_map (λ (t : TableCells). t.columns) o) [])) (unwrap_or (option_map rows_of o) [])
      by_table None at some = yes_is_no false some refl
      by_table (Some t) at some = all_long (length t.columns) (rows_of t) (full_at name t k.database.tables at well_parts.1)

-- COLUMNS THAT ARE DESCRIBED

dropped_described : (name : List ℕ) (m n : ℕ) (rows : List (List Value)) (cs : List ColumnDef) → AreDescribed name n rows cs → AreDescribed name (n + m) (drop m rows) (drop m cs)
dropped_described name zero n rows cs are = let none : n ≡ n + 0 = omega arith in subst (λ (i : ℕ). AreDescribed name i rows cs) none are
dropped_described name (suc m) n [] [] are = tt
dropped_described name (suc m) n [] (c ∷ cs) are = absurd are
dropped_described name (suc m) n (row ∷ rows) [] are = absurd are
dropped_described name (suc m) n (row ∷ rows) (c ∷ cs) are =
    let next : n + 1 + m ≡ n + suc m = omega arith in
    subst (λ (i : ℕ). AreDescribed name i (drop m rows) (drop m cs)) next (dropped_described name m (n + 1) rows cs are.1)

abbrev third : List Value → Value
third (a ∷ b ∷ c ∷ ds) = c
third _ = Null

abbrev fourth : List Value → Value
fourth (a ∷ b ∷ c ∷ d ∷ es) = d
fourth _ = Null

one_alike : (name : List ℕ) (n : ℕ) (row other : List Value) (c d : ColumnDef) → row ≡ other → Describes name n row c → Describes name n other d → (shape_of c ≡ shape_of d) × (c.name ≡ d.name)
one_alike name n row other c d e is has =
    let rows : Str name ∷ Int (pos n) ∷ is.name ∷ is.bits ∷ [] ≡ Str name ∷ Int (pos n) ∷ has.name ∷ has.bits ∷ [] = sym is.row_is ∙ e ∙ has.row_is in
    let names : is.name ≡ has.name = ap third rows in
    let bits : is.bits ≡ has.bits = ap fourth rows in
    let columns : is.column ≡ has.column = some_is is.column has.column (sym is.column_is ∙ (λ i. column_told (names i) (bits i)) ∙ has.column_is) in
    (sym is.same_shape ∙ ap shape_of columns ∙ has.same_shape, sym is.same_name ∙ ap (λ (x : ColumnDef). x.name) columns ∙ has.same_name)

alike_described : (name : List ℕ) (n : ℕ) (rows others : List (List Value)) (cs ds : List ColumnDef) → begin_alike rows others ≡ true → AreDescribed name n rows cs → AreDescribed name n others ds
    → (take (length cs) (shapes_of ds) ≡ shapes_of cs) × (names_of cs ≡ take (length cs) (names_of ds))
alike_described name n [] others [] ds h is has = (refl, refl)
alike_described name n [] others (c ∷ cs) ds h is has = absurd is
alike_described name n (row ∷ rows) [] cs ds h is has = yes_is_no false h refl
alike_described name n (row ∷ rows) (other ∷ others) [] ds h is has = absurd is
alike_described name n (row ∷ rows) (other ∷ others) (c ∷ cs) [] h is has = absurd has
alike_described name n (row ∷ rows) (other ∷ others) (c ∷ cs) (d ∷ ds) h is has =
    let q = and_parts (same_row row other) (begin_alike rows others) h in
    let first = one_alike name n row other c d (same row other q.0) is.0 has.0 in
    let rest = alike_described name (n + 1) rows others cs ds q.1 is.1 has.1 in
    ((λ i. sym first.0 i ∷ rest.0 i), (λ i. first.1 i ∷ rest.1 i))

-- ALL TABLES

not_true : (b : Bool) → not b ≡ true → b ≡ false
not_true true h = sym h
not_true false h = refl

not_false : (b : Bool) → not b ≡ false → b ≡ true
not_false true h = refl
not_false false h = sym h

passing : (q : List ℕ → Bool) (xs : List (List ℕ)) → AllByRecursion (λ x. q x ≡ true) (filter q xs)
passing q [] = tt
passing q (x ∷ xs) = by_test (q x) (λ t. rw t (t, passing q xs)) (λ t. rw t (passing q xs))

module _ (p : Pair) (well : is_well_formed p.old.database ≡ true) (well_too : is_well_formed p.new.database ≡ true) (described : ColumnsAreDescribed p.old) (described_too : ColumnsAreDescribed p.new) where
  -- none where the old package has no such table
  no_names : (name : List ℕ) → has_table name p.old.database ≡ false → ColumnsKeepNames p name
  no_names name b =
      let none : columns_in_table p.old name ≡ [] = ap (λ (o : Option TableCells). unwrap_or (option_map (λ (t : TableCells). t.columns) o) []) (none_there (table_at name p.old.database) b) in
      subst (λ (cs : List ColumnDef). names_of cs ≡ take (length cs) (names_of (columns_in_table p.new name))) (sym none) refl

  one_table : (name : List ℕ) → is_schema_table name ≡ false → has_table name p.new.database ≡ true → is_odd_table p.new name ≡ false
      → (has_table name p.old.database && not (keeps_columns p.old p.new name)) ≡ false → IsTellable p.old p.new name × NewColumnsAreDescribed p name × ColumnsKeepNames p name
  one_table name plain there odd keeps =
      let columns = columns_in_table p.new name in
      let parts = broken_parts (has_key columns) (list_any is_key_of_streams columns) (have_own_keys p.new.database.pool.places columns (system_rows p.new.database name)) (whole p.new name odd there) in
      let new = described_too name plain there in
      let kept : has_table name p.old.database ≡ true → (begin_alike (described_columns p.old name) (described_columns p.new name) ≡ true) × (not (has_key (drop (columns_before p.old.database name) columns)) ≡ true) =
      λ b. and_parts (begin_alike (described_columns p.old name) (described_columns p.new name)) (not (has_key (drop (columns_before p.old.database name) columns))) (not_false (keeps_columns p.old p.new name) (rw b at keeps)) in
      let alike : has_table name p.old.database ≡ true → (take (length (columns_in_table p.old name)) (shapes_of columns) ≡ shapes_of (columns_in_table p.old name))
      × (names_of (columns_in_table p.old name) ≡ take (length (columns_in_table p.old name)) (names_of columns)) =
      λ b. alike_described name 1 (described_columns p.old name) (described_columns p.new name) (columns_in_table p.old name) columns (kept b).0 (described name plain b) new in
      let next : 1 + columns_before p.old.database name ≡ columns_before p.old.database name + 1 = omega arith in (
        record {
          key = parts.1;
          whole = whole_rows p.new well_too name there;
          before = λ b. (whole_rows p.old well name b, record { begun = (alike b).0; plain = not_true (has_key (drop (columns_before p.old.database name) columns)) (kept b).1 });
        },
        subst (λ (i : ℕ). AreDescribed name i (drop (columns_before p.old.database name) (described_columns p.new name)) (drop (columns_before p.old.database name) columns)) next
            (dropped_described name (columns_before p.old.database name) 1 (described_columns p.new name) columns new),
        by_test (has_table name p.old.database) (λ b. (alike b).1) (λ b. no_names name b),
      )

  all_tables : (names : List (List ℕ)) → AllByRecursion (λ name. not (is_schema_table name) ≡ true) names → AllByRecursion (λ name. has_table name p.new.database ≡ true) names
      → AllByRecursion (λ name. is_odd_table p.new name ≡ false) names → AllByRecursion (λ name. (has_table name p.old.database && not (keeps_columns p.old p.new name)) ≡ false) names
      → AllByRecursion (IsTellable p.old p.new) names × AllByRecursion (NewColumnsAreDescribed p) names × AllByRecursion (ColumnsKeepNames p) names
  all_tables [] plain there odd keeps = (tt, tt, tt)
  all_tables (n ∷ ns) plain there odd keeps =
      let one = one_table n (not_true (is_schema_table n) plain.0) there.0 odd.0 keeps.0 in
      let rest = all_tables ns plain.1 there.1 odd.1 keeps.1 in
      ((one.0, rest.0), (one.1, rest.1), (one.2, rest.2))

pub described_tables_can_have_records : DescribedTablesCanHaveRecords
described_tables_can_have_records p t is well well_too described described_too =
    let all = all_tables p well well_too described described_too (told_names p.new) (passing (λ name. not (is_schema_table name)) (map (λ t. t.0) p.new.database.tables)) (all_there p.new)
    (none_passes (is_odd_table p.new) (told_names p.new) (both_fit p t is).1) (no_changed_columns p t is) in
    record { apart = apart_sorted p.new.database.tables (well_parts p.new well_too).0; tellable = all.0; described = all.1; names = all.2 }
