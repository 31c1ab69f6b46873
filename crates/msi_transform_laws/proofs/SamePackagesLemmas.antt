-- A package beside itself: nothing differs.
use Rattle.std.proofs.Common.{◌≡◌, ℕ, suc, ◌+◌, ◌-◌, Bool, true, false, not, T, List, [], ◌∷◌, ◌++◌, length, map, filter, refl, sym, ap, ◌∙◌, arith}
use Rattle.std.specs.Prelude.{Option, Some, None, filter_map, nat_lt, zip}
use Rattle.std.specs.Cmp.{eq_by_cmp_equiv}
use Rattle.std.specs.FinMap.{find, is_sorted}
use Rattle.std.specs.FinMap.Entries.{below_all, is_some-find}
use Rattle.std.specs.List.{AllByRecursion, enumerate_from, flat_map, list_any}
use Rattle.std.specs.Ordering.{eq_by_cmp, is_lt}
use Rattle.std.proofs.lemmas.Slice.Eq.{bytes_eq-Decides}
use Rattle.std.proofs.lemmas.List.{drop_all}
use Rattle.msi_base.specs.Lists.{list_cmp}
use Rattle.msi_base.specs.Refusals.{first_refusal}
use Rattle.msi_base.proofs.BoolLemmas.{T_parts}
use Rattle.msi_base.proofs.OptionLemmas.{some_is}
use Rattle.msi_database_changes.specs.Database.{has_table}
use Rattle.msi_database_changes.specs.Texts.{PoolInUse}
use Rattle.msi_database_schema.specs.System.{is_schema_table}
use Rattle.msi_database_storage.specs.Kept.{Kept}
use Rattle.msi_table_values.specs.declared.value.Value.{Value}
use Rattle.msi_table_values.specs.declared.value.Value.TheVariants.{Null, Int, Str, Binary}
use Rattle.msi_table_values.specs.Columns.{ColumnDef}
use Rattle.msi_table_values.specs.OrderLaws.{value_cmp-total}
use Rattle.msi_transform_applying.specs.Applying.{same_stream}
use Rattle.msi_transform_rows.specs.KeyOfRows.{key_cmp}
use Rattle.msi_transform_records.specs.declared.action.Action.TheVariants.{Add, Remove}
use Rattle.msi_transform_records.specs.declared.records.Record.{Record}
use Rattle.msi_transform.specs.Transforms.{TransformDef}
use Rattle.msi_transform_making.specs.Making.{Pair, ToldRecord, ToldRow, ToldRows, ToldTable, addition, change_of_row, columns_before, columns_in_table, described_columns, describing_record, differences, differing, is_replaced, is_told, listing_record, names_beside, or_first_told, reasons, records_of_columns, records_of_table, records_of_tables, removal, same_value, stored_tables, told_names, told_rows, told_table, told_tables, transform_with}
use Rattle.msi_transform_laws.specs.DescribedPackages.{ColumnsAreDescribed}
use Rattle.msi_transform_laws.specs.SamePackages.{IsEmpty, SamePackagesHaveNoRecords}
use Rattle.msi_transform_laws.specs.SchemaMade.{AreDescribed}
use Rattle.msi_transform_laws.proofs.CarriedOutLemmas.{keys_total, less}
use Rattle.msi_transform_laws.proofs.MadeRecordsLemmas.{made_by}
use Rattle.msi_transform_laws.proofs.SchemaListsLemmas.{each_passing, not_true}
use Rattle.msi_transform_laws.proofs.TableChangedLemmas.{all_there, each_among}
use Rattle.msi_transform_laws.proofs.TableRecordsLemmas.{sorted_told}

-- ROWS

same_as_itself : (v : Value) → same_value true (v, v) ≡ true
same_as_itself Null = (eq_by_cmp_equiv value_cmp-total).refl Null
same_as_itself (Int n) = (eq_by_cmp_equiv value_cmp-total).refl (Int n)
same_as_itself (Str text) = (eq_by_cmp_equiv value_cmp-total).refl (Str text)
same_as_itself Binary = refl

none_differs_from : (n : ℕ) (values : List Value) → map (λ e. e.0) (filter (λ e. not (same_value true e.1)) (enumerate_from n (zip values values))) ≡ []
none_differs_from n [] = refl
none_differs_from n (v ∷ values) = rw (same_as_itself v) (none_differs_from (n + 1) values)

same_stream_as_itself : (o : Option (List ℕ)) → same_stream o o ≡ true
same_stream_as_itself None = refl
same_stream_as_itself (Some bytes) = (bytes_eq-Decides bytes bytes).1 refl

pub nothing_differs : (row : ToldRow) → differing row row ≡ []
nothing_differs row =
    ap (λ (s : Bool). map (λ e. e.0) (filter (λ e. not (same_value s e.1)) (enumerate_from 0 (zip row.values row.values)))) (same_stream_as_itself row.stream)
    ∙ none_differs_from 0 row.values

-- each row is found at its key
abbrev AreFound : ToldRows → ToldRows → Type 0
AreFound rows es = AllByRecursion (λ e. find key_cmp e.0 rows ≡ Some e.1) es

found_behind : (e : List Value × ToldRow) (rows es : ToldRows) → T (below_all key_cmp e.0 es) → AreFound rows es → AreFound (e ∷ rows) es
found_behind e rows [] below h = tt
found_behind e rows (x ∷ es) below h =
    let p = T_parts (is_lt (key_cmp e.0 x.0)) (below_all key_cmp e.0 es) below in
    let apart : eq_by_cmp key_cmp x.0 e.0 ≡ false = (eq_by_cmp_equiv keys_total).symm x.0 e.0 ∙ less (key_cmp e.0 x.0) p.0 in
    (rw apart h.0, found_behind e rows es p.1 h.1)

each_found : (rows : ToldRows) → T (is_sorted key_cmp rows) → AreFound rows rows
each_found [] h = tt
each_found (e ∷ es) h =
    let p = T_parts (below_all key_cmp e.0 es) (is_sorted key_cmp es) h in
    (rw ((eq_by_cmp_equiv keys_total).refl e.0) refl, found_behind e es es p.0 (each_found es p.1))

none_replaced : (rows es : ToldRows) → AreFound rows es → filter (is_replaced rows) es ≡ []
none_replaced rows [] h = refl
none_replaced rows (e ∷ es) h = rw (h.0, nothing_differs e.1) (none_replaced rows es h.1)

none_changed : (columns : List ColumnDef) (rows es : ToldRows) → AreFound rows es → filter_map (change_of_row columns rows) es ≡ []
none_changed columns rows [] h = refl
none_changed columns rows (e ∷ es) h = rw (h.0, nothing_differs e.1) (none_changed columns rows es h.1)

pub no_differences : (columns : List ColumnDef) (rows : ToldRows) → T (is_sorted key_cmp rows) → differences columns rows rows ≡ []
no_differences columns rows sorted =
    let found = each_found rows sorted in
    let kept : filter (is_replaced rows) rows ≡ [] = none_replaced rows rows found in
    ap (λ (es : ToldRows). map (λ e. removal e.0) es ++ filter_map (change_of_row columns rows) rows ++ map addition (filter (is_replaced rows) rows)) kept
    ∙ ap (λ (rs : List ToldRecord). rs ++ map addition (filter (is_replaced rows) rows)) (none_changed columns rows rows found)
    ∙ ap (λ (es : ToldRows). map addition es) kept

-- TABLES

each_is : {X : Type 0} (P Q : X → Type 0) → ((x : X) → P x → Q x) → (xs : List X) → AllByRecursion P xs → AllByRecursion Q xs
each_is P Q f [] h = tt
each_is P Q f (x ∷ xs) h = (f x h.0, each_is P Q f xs h.1)

-- the names of the tables are all there
each_there : (k : Kept) → AllByRecursion (λ name. has_table name k.database ≡ true) (map (λ t. t.0) k.database.tables)
each_there k = let names = map (λ t. t.0) k.database.tables in
    each_is (λ name. list_any (eq_by_cmp list_cmp name) names ≡ true) (λ name. has_table name k.database ≡ true) (λ name h. is_some-find list_cmp name k.database.tables ∙ h) names (each_among names)

none_passes : {X : Type 0} (q : X → Bool) (xs : List X) → AllByRecursion (λ x. q x ≡ true) xs → filter (λ x. not (q x)) xs ≡ []
none_passes q [] h = refl
none_passes q (x ∷ xs) h = rw h.0 (none_passes q xs h.1)

none_beside : (k : Kept) → names_beside k.database k.database ≡ []
none_beside k = none_passes (λ name. has_table name k.database) (map (λ t. t.0) k.database.tables) (each_there k)

no_listings : (k : Kept) → records_of_tables k.database k.database ≡ []
no_listings k = ap (λ (names : List (List ℕ)). map (listing_record Remove) names ++ map (listing_record (Add 1)) names) (none_beside k)

as_many : (table : List ℕ) (n : ℕ) (rows : List (List Value)) (columns : List ColumnDef) → AreDescribed table n rows columns → length rows ≡ length columns
as_many table n [] [] h = refl
as_many table n [] (c ∷ columns) h = absurd h
as_many table n (row ∷ rows) [] h = absurd h
as_many table n (row ∷ rows) (c ∷ columns) h = ap suc (as_many table (n + 1) rows columns h.1)

module _ (k : Kept) (described : ColumnsAreDescribed k) where
  no_columns : (name : List ℕ) → is_schema_table name ≡ false → has_table name k.database ≡ true → records_of_columns k k name ≡ []
  no_columns name plain there = ap (map (describing_record (has_table name k.database)))
      (drop_all (columns_before k.database name) (described_columns k name)
      (let many = as_many name 1 (described_columns k name) (columns_in_table k name) (described name plain there) in omega (arith, many)))

  no_rows : (name : List ℕ) → has_table name k.database ≡ true → records_of_table k k name ≡ []
  no_rows name there =
      let columns = columns_in_table k name in
      let before = columns_before k.database name in
      let none : length columns - before ≡ 0 = omega arith in
      rw there (
      ap (λ (added : ℕ). let rows = told_rows k name added in or_first_told columns before added rows (differences columns rows (told_rows k name 0))) none
      ∙ rw (no_differences columns (told_rows k name 0) (sorted_told k name 0)) refl
      )

  all_columns : (names : List (List ℕ)) → AllByRecursion (λ name. not (is_schema_table name) ≡ true) names → AllByRecursion (λ name. has_table name k.database ≡ true) names → flat_map (records_of_columns k k) names ≡ []
  all_columns [] plain there = refl
  all_columns (n ∷ names) plain there =
      ap (λ (rs : List ToldRecord). rs ++ flat_map (records_of_columns k k) names) (no_columns n (not_true (is_schema_table n) plain.0) there.0)
      ∙ all_columns names plain.1 there.1

  untold : (table : ToldTable) → table.records ≡ [] → is_told table ≡ false
  untold table none = ap (λ (rs : List ToldRecord). nat_lt 0 (length rs)) none

  all_rows : (names : List (List ℕ)) → AllByRecursion (λ name. has_table name k.database ≡ true) names → filter is_told (map (told_table k k) names) ≡ []
  all_rows [] there = refl
  all_rows (n ∷ names) there = rw (untold (told_table k k n) (no_rows n there.0)) (all_rows names there.1)

  pub nothing_told : told_tables k k ≡ []
  nothing_told =
      let columns : flat_map (records_of_columns k k) (told_names k) ≡ [] =
      all_columns (told_names k) (each_passing (λ name. not (is_schema_table name)) (map (λ t. t.0) k.database.tables)) (all_there k) in
      rw (no_listings k, columns) (all_rows (told_names k) (all_there k))

-- so the transform is empty
module _ (page_id : ℕ) (k : Kept) (t : TransformDef) where
  left_empty : (tables : List ToldTable) → tables ≡ [] → (s : List (ToldTable × List Record) × PoolInUse) → stored_tables tables ≡ Some s → transform_with page_id k tables s ≡ t → IsEmpty t
  left_empty tables none s stored made =
      let fresh : PoolInUse = record { places = []; is_used = false } in
      let gone : [] ≡ tables = sym none in
      let empty : ([], fresh) ≡ s = some_is ([], fresh) s (sym (ap stored_tables none) ∙ stored) in
      let is : transform_with page_id k [] ([], fresh) ≡ t = (λ i. transform_with page_id k (gone i) (empty i)) ∙ made in
      record { tables = sym (ap (λ (u : TransformDef). u.tables) is); streams = sym (ap (λ (u : TransformDef). u.streams) is) }

pub same_packages_have_no_records : SamePackagesHaveNoRecords
same_packages_have_no_records k page_id t described is =
    let p : Pair = record { old_page = page_id; old = k; new_page = page_id; new = k } in
    let s = made_by page_id k (told_tables k k) t (first_refusal (reasons p)) is in
    left_empty page_id k t (told_tables k k) (nothing_told k described) s.0 s.1 s.2
