-- The records of `_Tables` and `_Columns` of a transform that is made: read of it, and the tables that come and go.
use Rattle.std.proofs.Common.{◌≡◌, ℕ, ◌≤◌, Bool, true, false, cond, not, ◌||◌, List, [], ◌∷◌, length, map, filter, refl, sym, ap, ◌∙◌, arith}
use Rattle.std.specs.Prelude.{Option, Some, None, Result, Ok, Err, unwrap_or, if◌then◌else◌, bytes_eq}
use Rattle.std.specs.FinMap.{find}
use Rattle.std.specs.FinMap.Entries.{find-put}
use Rattle.std.specs.List.{AllByRecursion, flat_map, list_any}
use Rattle.std.specs.Option.{option_map_or}
use Rattle.std.specs.Ordering.{eq_by_cmp}
use Rattle.std.proofs.lemmas.Bool.{ltb-false}
use Rattle.std.proofs.lemmas.Map.Text.{is_eq-slice_cmp}
use Rattle.msi_base.specs.Lists.{has_pair, list_cmp}
use Rattle.msi_base.specs.declared.errors.ErrorKind.{ErrorKind}
use Rattle.msi_base.specs.declared.errors.ErrorKind.TheVariants.{InvalidData}
use Rattle.msi_base.proofs.BoolLemmas.{by_test, yes_is_no}
use Rattle.msi_table_values.specs.Columns.{ColumnDef}
use Rattle.msi_database_schema.specs.System.{columns_columns, columns_name, is_schema_table, tables_columns, tables_name}
use Rattle.msi_database_changes.specs.Database.{Database, has_table}
use Rattle.msi_transform_records.specs.declared.records.Record.{Record}
use Rattle.msi_transform_records.specs.declared.shape.Shape.{Shape}
use Rattle.msi_transform_records.specs.Records.{leading, records_in}
use Rattle.msi_transform.specs.Transforms.{TransformDef, records_for, shapes_of}
use Rattle.msi_transform_rows.specs.RecordRefusals.{at_record, in_turn_from, ◌>>=◌}
use Rattle.msi_transform_rows.specs.TableRecords.{all_applied, number_of}
use Rattle.msi_transform_schema.specs.SchemaApplying.{records_applied}
use Rattle.msi_transform_schema.specs.SchemaChanges.{SchemaInHand, TableInHand, TablesTold, is_name_to_list, is_unlisted, table_in_hand, untold_table}
use Rattle.msi_transform_schema.specs.declared.schema.Standing.{Standing}
use Rattle.msi_transform_schema.specs.declared.schema.Standing.TheVariants as stands
use Rattle.msi_transform_making.specs.Making.{Pair, ToldRecord, ToldTable, is_told, made, records_of_columns, records_of_tables, told_names, told_table}
use Rattle.msi_transform_laws.specs.RecordsRead.{action_and_values, values_read}
use Rattle.msi_transform_laws.specs.RowsApplied.{SaySame}
use Rattle.msi_transform_laws.specs.SchemaApplied.{CanAddTables, with_table_added, with_tables_added}
use Rattle.msi_transform_laws.specs.TableApplied.{CanHaveRecords}
use Rattle.msi_transform_laws.specs.TablesRemoved.{CanRemoveTables, with_table_removed, with_tables_removed}
use Rattle.msi_transform_laws.specs.TablesChanged.{TableOfRecords}
use Rattle.msi_transform_laws.proofs.ListedTablesLemmas.{exact_names}
use Rattle.msi_transform_laws.proofs.MadeRecordsLemmas.{first_system, made_records_are_read, second_system}
use Rattle.msi_transform_laws.proofs.StoredRecordsLemmas.{names_total, other_name}
use Rattle.msi_transform_laws.proofs.TableAppliedLemmas.{Read, read_of}
use Rattle.msi_transform_laws.proofs.TablesChangedLemmas.{all_in_transform}

pub not_false : (b : Bool) → not b ≡ false → b ≡ true
not_false true h = refl
not_false false h = sym h

pub not_true : (b : Bool) → not b ≡ true → b ≡ false
not_true true h = sym h
not_true false h = refl

-- WHAT IS READ OF A LIST

module _ {X : Type 0} where
  all_as : (P Q : X → Type 0) → ((x : X) → P x → Q x) → (xs : List X) → AllByRecursion P xs → AllByRecursion Q xs
  all_as P Q f [] h = tt
  all_as P Q f (x ∷ xs) h = (f x h.0, all_as P Q f xs h.1)

  -- of those that pass a test
  pub if_first : (P : X → Type 0) (q : X → Bool) (x : X) (xs : List X) → AllByRecursion P (filter q (x ∷ xs)) → (q x ≡ true → P x) × AllByRecursion P (filter q xs)
  if_first P q x xs h = by_test (q x)
      (λ t. let g = rw t at h in ((λ _. g.0), g.1))
      (λ t. ((λ u. yes_is_no (q x) u t), rw t at h))

  first_if : (P : X → Type 0) (q : X → Bool) (x : X) (xs : List X) → (q x ≡ true → P x) → AllByRecursion P (filter q xs) → AllByRecursion P (filter q (x ∷ xs))
  first_if P q x xs f h = by_test (q x) (λ t. rw t (f t, h)) (λ t. rw t h)

  pub all_passing : (P : X → Type 0) (q : X → Bool) (xs : List X) → AllByRecursion P xs → AllByRecursion P (filter q xs)
  all_passing P q [] h = tt
  all_passing P q (x ∷ xs) h = by_test (q x) (λ t. rw t (h.0, all_passing P q xs h.1)) (λ t. rw t (all_passing P q xs h.1))

  pub each_passing : (q : X → Bool) (xs : List X) → AllByRecursion (λ x. q x ≡ true) (filter q xs)
  each_passing q [] = tt
  each_passing q (x ∷ xs) = by_test (q x) (λ t. rw t (t, each_passing q xs)) (λ t. rw t (each_passing q xs))

pub not_told_is : (table : ToldTable) → is_told table ≡ false → table.records ≡ []
not_told_is table h = none_of table.records (ltb-false 0 (length table.records) h)
  where
    none_of : (rs : List ToldRecord) → length rs ≤ 0 → rs ≡ []
    none_of [] few = refl
    none_of (r ∷ rs) few = absurd (omega (arith, few))

not_found : (name : List ℕ) (es : List TableOfRecords) → AllByRecursion (λ (e : TableOfRecords). eq_by_cmp list_cmp name e.0 ≡ false) es → find list_cmp name es ≡ None
not_found name [] h = refl
not_found name (e ∷ es) h = rw h.0 (not_found name es h.1)

-- records of a list that are applied, be there some in the transform or none
module _ (t : TransformDef) (table : ToldTable) (columns : List ColumnDef) (shapes_are : table.shapes ≡ shapes_of columns)
    (read : is_told table ≡ true → values_read t table ≡ Some (map action_and_values table.records)) (absent : is_told table ≡ false → records_for table.name t ≡ None)
    (step : List Shape → SchemaInHand → Record → Result SchemaInHand ErrorKind) (s : SchemaInHand) where
  abbrev pub number : ℕ
  number = number_of t table.name

  abbrev ByStored : Type 0
  ByStored = (stored : List Record) × SaySame t table.records stored
      × ((after : SchemaInHand) → in_turn_from number (step (shapes_of columns)) 0 s stored ≡ Ok after → records_applied t table.name columns step s ≡ Ok after)

  with_records : Read t table → ByStored
  with_records r =
      let (bytes, at, stored, records, says) = r in (
        stored,
        says,
        (λ after ran.
            ap (λ (o : Option (List ℕ)). option_map_or (λ bytes. all_applied number t (shapes_of columns) bytes (step (shapes_of columns)) s) o (Ok s)) at
            ∙ ap (λ (l : List Shape). option_map_or Ok (records_in l t.pool bytes) (at_record number (length (leading (shapes_of columns) t.pool bytes).0) (Err InvalidData))
            >>= λ records. in_turn_from number (step (shapes_of columns)) 0 s records) (sym shapes_are)
            ∙ ap (λ (o : Option (List Record)). option_map_or Ok o (at_record number (length (leading (shapes_of columns) t.pool bytes).0) (Err InvalidData))
            >>= λ records. in_turn_from number (step (shapes_of columns)) 0 s records) records
            ∙ ran),
      )

  without_records : table.records ≡ [] → records_for table.name t ≡ None → ByStored
  without_records none at = (
    [],
    sym (ap (map action_and_values) none),
    (λ after ran.
        ap (λ (o : Option (List ℕ)). option_map_or (λ bytes. all_applied number t (shapes_of columns) bytes (step (shapes_of columns)) s) o (Ok s)) at ∙ ran),
  )

  pub by_stored : ByStored
  by_stored = by_test (is_told table)
      (λ b. with_records (read_of t table (records_for table.name t) refl (read b)))
      (λ b. without_records (not_told_is table b) (absent b))

-- THE LISTS OF A TRANSFORM THAT IS MADE

abbrev pub list_of_tables : Pair → ToldTable
list_of_tables p = record { name = tables_name; shapes = shapes_of tables_columns; records = records_of_tables p.old.database p.new.database }

abbrev pub list_of_columns : Pair → ToldTable
list_of_columns p = record { name = columns_name; shapes = shapes_of columns_columns; records = flat_map (records_of_columns p.old p.new) (told_names p.new) }

module _ (p : Pair) (t : TransformDef) (is : made p ≡ Ok t) (can : CanHaveRecords p) where
  abbrev ReadsBack : ToldTable → Type 0
  ReadsBack table = values_read t table ≡ Some (map action_and_values table.records)

  abbrev pub others : List ToldTable
  others = map (told_table p.old p.new) (told_names p.new)

  pub read_tables : (is_told (list_of_tables p) ≡ true → ReadsBack (list_of_tables p)) × (is_told (list_of_columns p) ≡ true → ReadsBack (list_of_columns p))
  read_tables =
      let all = made_records_are_read p t is can.apart can.spellable in
      let one = if_first ReadsBack is_told (list_of_tables p) (list_of_columns p ∷ others) all in
      let two = if_first ReadsBack is_told (list_of_columns p) others one.1 in
      (one.0, two.0)

  module _ (name : List ℕ) (system : (n : List ℕ) → is_schema_table n ≡ false → bytes_eq n name ≡ false) where
    abbrev IsOther : List ℕ → Type 0
    IsOther n = eq_by_cmp list_cmp name n ≡ false

    others_differ : (names : List (List ℕ)) → AllByRecursion (λ n. not (is_schema_table n) ≡ true) names → AllByRecursion (λ (table : ToldTable). IsOther table.name) (map (told_table p.old p.new) names)
    others_differ [] h = tt
    others_differ (n ∷ ns) h = (other_name name n (system n (not_true (is_schema_table n) h.0)), others_differ ns h.1)

    differ : AllByRecursion (λ (table : ToldTable). IsOther table.name) (filter is_told others)
    differ = all_passing (λ (table : ToldTable). IsOther table.name) is_told others
        (others_differ (told_names p.new) (each_passing (λ n. not (is_schema_table n)) (map (λ t. t.0) p.new.database.tables)))

  pub absent_tables : is_told (list_of_tables p) ≡ false → records_for tables_name t ≡ None
  absent_tables b = not_found tables_name t.tables (all_in_transform p t is (λ n. eq_by_cmp list_cmp tables_name n ≡ false)
      (first_if (λ (table : ToldTable). eq_by_cmp list_cmp tables_name table.name ≡ false) is_told (list_of_tables p) (list_of_columns p ∷ others) (λ u. yes_is_no (is_told (list_of_tables p)) u b)
      (first_if (λ (table : ToldTable). eq_by_cmp list_cmp tables_name table.name ≡ false) is_told (list_of_columns p) others (λ u. refl) (differ tables_name first_system))))

  pub absent_columns : is_told (list_of_columns p) ≡ false → records_for columns_name t ≡ None
  absent_columns b = not_found columns_name t.tables (all_in_transform p t is (λ n. eq_by_cmp list_cmp columns_name n ≡ false)
      (first_if (λ (table : ToldTable). eq_by_cmp list_cmp columns_name table.name ≡ false) is_told (list_of_tables p) (list_of_columns p ∷ others) (λ u. refl)
      (first_if (λ (table : ToldTable). eq_by_cmp list_cmp columns_name table.name ≡ false) is_told (list_of_columns p) others (λ u. yes_is_no (is_told (list_of_columns p)) u b) (differ columns_name second_system))))

-- THE TABLES THAT COME

pub neither : (a b : Bool) → (a || b) ≡ false → (a ≡ false) × (b ≡ false)
neither true b h = yes_is_no true refl h
neither false b h = (refl, h)

either_way : {X : Type 0} (a b : Bool) (x z : X) → cond b x (cond a x z) ≡ cond (a || b) x z
either_way true true x z = refl
either_way true false x z = refl
either_way false b x z = refl

pub names_differ : (m n : List ℕ) → bytes_eq m n ≡ false → eq_by_cmp list_cmp m n ≡ false
names_differ m n h = is_eq-slice_cmp m n ∙ h

module _ (d : Database) where
  abbrev pub is_new : List ℕ → Bool
  is_new name = not (has_table name d)

  -- they aren't in hand yet
  abbrev pub AreAbsent : TablesTold → List (List ℕ) → Type 0
  AreAbsent tables names = AllByRecursion (λ name. find list_cmp name tables ≡ None) names

  abbrev pub MayCome : List ℕ → Type 0
  MayCome name = is_new name ≡ true → (is_name_to_list name ≡ true) × (is_unlisted d name ≡ false)

  still_absent : (tables : TablesTold) (name : List ℕ) (names : List (List ℕ)) → list_any (bytes_eq name) names ≡ false → AreAbsent tables names → AreAbsent (with_table_added tables name) names
  still_absent tables name [] apart h = tt
  still_absent tables name (n ∷ ns) apart h =
      let q = neither (bytes_eq name n) (list_any (bytes_eq name) ns) apart in
      (find-put list_cmp names_total n name (record { standing = stands.Added; added = [] }) tables ∙ rw (other_name n name q.0) h.0, still_absent tables name ns q.1 h.1)

  pub can_come : (tables : TablesTold) (names : List (List ℕ)) → has_pair bytes_eq names ≡ false → AllByRecursion MayCome names → AreAbsent tables names → CanAddTables d tables (filter is_new names)
  can_come tables [] apart may absent = tt
  can_come tables (n ∷ ns) apart may absent =
      let q = neither (list_any (bytes_eq n) ns) (has_pair bytes_eq ns) apart in
      by_test (is_new n)
      (λ b. let m = may.0 b in
      rw b (record { listed = m.0; absent = absent.0; new = not_true (has_table n d) b; unlisted = m.1 }, can_come (with_table_added tables n) ns q.1 may.1 (still_absent tables n ns q.0 absent.1)))
      (λ b. rw b (can_come tables ns q.1 may.1 absent.1))

  pub none_absent : (names : List (List ℕ)) → AreAbsent [] names
  none_absent [] = tt
  none_absent (n ∷ ns) = (refl, none_absent ns)

  -- how a table is in hand then
  pub found_added : (q : List ℕ) (tables : TablesTold) (names : List (List ℕ)) → find list_cmp q (with_tables_added tables names)
      ≡ cond (list_any (eq_by_cmp list_cmp q) names) (Some (record { standing = stands.Added; added = [] })) (find list_cmp q tables)
  found_added q tables [] = refl
  found_added q tables (n ∷ ns) =
      found_added q (with_table_added tables n) ns
      ∙ ap (cond (list_any (eq_by_cmp list_cmp q) ns) (Some (record { standing = stands.Added; added = [] }))) (find-put list_cmp names_total q n (record { standing = stands.Added; added = [] }) tables)
      ∙ either_way (eq_by_cmp list_cmp q n) (list_any (eq_by_cmp list_cmp q) ns) (Some (record { standing = stands.Added; added = [] })) (find list_cmp q tables)

  abbrev pub standing_of : List ℕ → Standing
  standing_of name = if has_table name d then stands.Kept else stands.Added

  none_new : (name : List ℕ) (names : List (List ℕ)) → is_new name ≡ false → list_any (eq_by_cmp list_cmp name) (filter is_new names) ≡ false
  none_new name [] old = refl
  none_new name (n ∷ ns) old = by_test (is_new n)
      (λ b. by_test (eq_by_cmp list_cmp name n)
      (λ t. yes_is_no (is_new name) (ap is_new (exact_names name n t) ∙ b) old)
      (λ t. rw (b, t) (none_new name ns old)))
      (λ b. rw b (none_new name ns old))

  among_new : (name : List ℕ) (names : List (List ℕ)) → list_any (eq_by_cmp list_cmp name) names ≡ true → list_any (eq_by_cmp list_cmp name) (filter is_new names) ≡ is_new name
  among_new name [] h = yes_is_no false h refl
  among_new name (n ∷ ns) h = by_test (eq_by_cmp list_cmp name n)
      (λ t. let same : name ≡ n = exact_names name n t in
      by_test (is_new n)
      (λ b. let new : is_new name ≡ true = ap is_new same ∙ b in rw (b, t, new) refl)
      (λ b. let old : is_new name ≡ false = ap is_new same ∙ b in rw (b, old) (none_new name ns old)))
      (λ t. by_test (is_new n)
      (λ b. rw (b, t) (among_new name ns (rw t at h)))
      (λ b. rw b (among_new name ns (rw t at h))))

  in_hand_by : (name : List ℕ) (b : Bool) → has_table name d ≡ b → unwrap_or (cond (not b) (Some (record { standing = stands.Added; added = [] })) None) (untold_table d name)
      ≡ record { standing = if b then stands.Kept else stands.Added; added = [] }
  in_hand_by name true there = ap (λ b. record { standing = if b then stands.Kept else stands.Gone; added = [] }) there
  in_hand_by name false there = refl

  pub in_hand_then : (base : TablesTold) (name : List ℕ) (names : List (List ℕ)) → find list_cmp name base ≡ None → list_any (eq_by_cmp list_cmp name) names ≡ true
      → table_in_hand d (with_tables_added base (filter is_new names)) name ≡ record { standing = standing_of name; added = [] }
  in_hand_then base name names absent among =
      let added : TableInHand = record { standing = stands.Added; added = [] } in
      ap (λ (o : Option TableInHand). unwrap_or o (untold_table d name)) (found_added name base (filter is_new names)
      ∙ ap (λ b. cond b (Some added) (find list_cmp name base)) (among_new name names among) ∙ ap (cond (is_new name) (Some added)) absent)
      ∙ in_hand_by name (has_table name d) refl

-- THE TABLES THAT GO

pub found_removed : (q : List ℕ) (tables : TablesTold) (names : List (List ℕ)) → find list_cmp q (with_tables_removed tables names) ≡ cond (list_any (eq_by_cmp list_cmp q) names) (Some (record { standing = stands.Gone; added = [] })) (find list_cmp q tables)
found_removed q tables [] = refl
found_removed q tables (n ∷ ns) =
    found_removed q (with_table_removed tables n) ns
    ∙ ap (cond (list_any (eq_by_cmp list_cmp q) ns) (Some (record { standing = stands.Gone; added = [] }))) (find-put list_cmp names_total q n (record { standing = stands.Gone; added = [] }) tables)
    ∙ either_way (eq_by_cmp list_cmp q n) (list_any (eq_by_cmp list_cmp q) ns) (Some (record { standing = stands.Gone; added = [] })) (find list_cmp q tables)

still_untold : (tables : TablesTold) (name : List ℕ) (names : List (List ℕ)) → list_any (bytes_eq name) names ≡ false → AllByRecursion (λ name. find list_cmp name tables ≡ None) names
    → AllByRecursion (λ other. find list_cmp other (with_table_removed tables name) ≡ None) names
still_untold tables name [] apart h = tt
still_untold tables name (n ∷ ns) apart h =
    let q = neither (bytes_eq name n) (list_any (bytes_eq name) ns) apart in
    (find-put list_cmp names_total n name (record { standing = stands.Gone; added = [] }) tables ∙ rw (other_name n name q.0) h.0, still_untold tables name ns q.1 h.1)

module _ (d : Database) (goes : List ℕ → Bool) where
  abbrev pub MayGo : List ℕ → Type 0
  MayGo name = goes name ≡ true → (is_name_to_list name ≡ true) × (has_table name d ≡ true)

  pub can_go : (tables : TablesTold) (names : List (List ℕ)) → has_pair bytes_eq names ≡ false → AllByRecursion MayGo names → AllByRecursion (λ name. find list_cmp name tables ≡ None) names
      → CanRemoveTables d tables (filter goes names)
  can_go tables [] apart may untold = tt
  can_go tables (n ∷ ns) apart may untold =
      let q = neither (list_any (bytes_eq n) ns) (has_pair bytes_eq ns) apart in
      by_test (goes n)
      (λ b. let m = may.0 b in rw b (record { listed = m.0; untold = untold.0; there = m.1 }, can_go (with_table_removed tables n) ns q.1 may.1 (still_untold tables n ns q.0 untold.1)))
      (λ b. rw b (can_go tables ns q.1 may.1 untold.1))
