-- The tables that are left once the records of a transform that is made are applied, from a schema that has its columns.
use Rattle.msi_transform_laws.proofs.NamedSumsLemmas.{if_passing, named_sum, sum_same}
use Rattle.msi_transform_laws.specs.RowsApplied.{cells_naming}
use Rattle.msi_database_changes.proofs.text_counts.RowsLemmas.{rows_uses}
use Rattle.msi_table_cells.specs.TableCells.{TableCells}
use Rattle.msi_table_cells.specs.declared.cell.ValueRef.{ValueRef}
use Rattle.std.specs.Cmp.Lexicographic.{bytes_decides}
use Rattle.std.proofs.Common.{◌≡◌, ℕ, zero, suc, ◌+◌, ◌-◌, ◌<◌, ◌≤◌, Bool, true, false, not, ◌&&◌, ◌||◌, List, [], ◌∷◌, ◌++◌, length, map, filter, refl, sym, ap, subst, ◌∙◌, arith, append-nil, inl, inr, T}
use Rattle.std.specs.Prelude.{Option, Some, None, Result, Ok, is_none, is_some, unwrap_or, if◌then◌else◌, nat_lt, bytes_eq, count_by, ◌==◌, option_map}
use Rattle.std.specs.FinMap.{find, is_sorted}
use Rattle.std.specs.FinMap.Entries.{is_some-find}
use Rattle.std.specs.List.{AllByRecursion, list_any}
use Rattle.std.specs.Ordering.{eq_by_cmp}
use Rattle.std.proofs.lemmas.Bool.{ltb-false, and_parts, or_cases}
use Rattle.std.proofs.lemmas.List.Folds.{list_any-append}
use Rattle.msi_base.specs.Lists.{list_cmp}
use Rattle.msi_base.proofs.BoolLemmas.{by_test, yes_is_no}
use Rattle.msi_base.proofs.ListLemmas.{list_any-map, all_kept}
use Rattle.msi_base.proofs.OptionLemmas.{none_is, none_there, some_is}
use Rattle.msi_pool.specs.Pool.{Place}
use Rattle.msi_pool.specs.FirstFitLaws.{text_at, TakenPlacesHoldTheirText, GivenBackTakesOne}
use Rattle.msi_table.specs.Census.{numbers_of_rows}
use Rattle.msi_table_values.specs.Columns.{ColumnDef}
use Rattle.msi_database_schema.specs.System.{columns_name, is_schema_table, tables_name}
use Rattle.msi_database_schema.proofs.AccountLemmas.{Uses, room, room_at}
use Rattle.msi_database_changes.specs.Database.{Database, has_table, Tables, rows_of}
use Rattle.msi_transform_records.specs.declared.shape.Shape.{Shape}
use Rattle.msi_transform.specs.Transforms.{TransformDef, records_for, shapes_of}
use Rattle.msi_transform.specs.declared.conditions.ErrorConditions.{ErrorConditions}
use Rattle.msi_transform_rows.specs.RecordRefusals.{Refusal, ◌>>=◌}
use Rattle.msi_transform_rows.specs.RowChanges.{cells_of, Rows, keyed}
use Rattle.msi_transform_rows.specs.TableRecords.{changes_schema}
use Rattle.msi_transform_schema.specs.SchemaApplying.{system_rows}
use Rattle.msi_transform_schema.specs.SchemaChanges.{SchemaChange, SchemaInHand, TableInHand, TablesTold, columns_in_hand, columns_of_package, is_added, is_gone, table_in_hand, untold_table, plain_row}
use Rattle.msi_transform_schema.specs.declared.schema.Standing.{Standing}
use Rattle.msi_transform_schema.specs.declared.schema.Standing.TheVariants as stands
use Rattle.msi_transform_applying.specs.Applying.{TableAnew, TablesInHand, change_with, changed_with, is_anew, is_lengthened, lengthened_alone, rows_changed, systems_anew, table_lengthened, tables_begun, tables_in_turn, with_lengthened, lengthened_row, stays, table_staying, tables_left}
use Rattle.msi_transform_making.specs.Making.{Pair, columns_before, columns_in_table, made, told_names, told_rows}
use Rattle.msi_transform_laws.specs.CarriedOut.{rows_before}
use Rattle.msi_transform_laws.specs.RowsBegun.{HasNewColumns, HoldsStreams, StandsAs}
use Rattle.msi_transform_laws.specs.TableApplied.{CanHaveRecords, table_change}
use Rattle.msi_transform_laws.specs.TablesChanged.{AreChanged, CountsCellsOf, HasNewRows, TableOfRecords, cells_anew, cells_to_change, texts_to_come}
use Rattle.msi_transform_laws.specs.TransformsApplied.{StaysNew}
use Rattle.msi_transform_laws.proofs.AppliedRecordsLemmas.{naming_cells}
use Rattle.msi_transform_laws.proofs.ExactPackagesLemmas.{names_turn, uses_of}
use Rattle.msi_transform_laws.proofs.GoodTextsLemmas.{HoldsGood, IsGoodTold, none_of_rows, values_good}
use Rattle.msi_transform_laws.proofs.ListedTablesLemmas.{exact_names}
use Rattle.msi_transform_laws.proofs.NewTablesLemmas.{all_joined, alone_new, both_all, texts_ready, no_new_rows, no_old_rows, no_rows_begun}
use Rattle.msi_transform_laws.proofs.RowsBegunLemmas.{many_shapes}
use Rattle.msi_transform_laws.proofs.SchemaListsLemmas.{each_passing}
use Rattle.msi_transform_laws.proofs.SchemaMadeLemmas.{AreNamed, IsNamed, at_name, each_found, IsKnown, passes_among}
use Rattle.msi_transform_laws.proofs.TableChangedLemmas.{of_tables, all_there}
use Rattle.msi_transform_laws.proofs.TablesChangedLemmas.{all_in_transform, made_tables_are_changed_in_turn, no_rows_there}
use Rattle.msi_transform_laws.proofs.WithoutRecordsLemmas.{Stays, tables_without_records_stay}

not_true : (b : Bool) → not b ≡ true → b ≡ false
not_true true h = sym h
not_true false h = refl

neither : (a b : Bool) → (a || b) ≡ false → (a ≡ false) × (b ≡ false)
neither true b h = yes_is_no true refl h
neither false b h = (refl, h)

not_first : (a b : Bool) → (a && b) ≡ false → b ≡ true → a ≡ false
not_first true b h t = yes_is_no b t h
not_first false b h t = refl

none_long : (columns : List ColumnDef) → nat_lt 0 (length columns) ≡ false → columns ≡ []
none_long [] h = refl
none_long (c ∷ columns) h = absurd (omega (arith, ltb-false 0 (length (c ∷ columns)) h))

counted_room : (cells others : Uses) (places : List Place) → CountsCellsOf cells others places → (n : ℕ) → room places n ≡ cells n + others n
counted_room cells others places counts zero = sym counts.from_one
counted_room cells others places counts (suc i) = room_at places (suc i) (omega arith) ∙ counts.counts (suc i) (omega arith)

-- WHERE NOTHING IS COUNTED

zero_if : (b : Bool) (x : ℕ) → x ≡ 0 → (if b then x else 0) ≡ 0
zero_if true x h = h
zero_if false x h = refl

zero_rest : (a b c e : Bool) (x : ℕ) → x ≡ 0 → (if a then (if b then 0 else x) else if not c then 0 else if e then 0 else x) ≡ 0
zero_rest true true c e x h = refl
zero_rest true false c e x h = h
zero_rest false b false e x h = refl
zero_rest false b true true x h = refl
zero_rest false b true false x h = h

not_gone_as : (b : Bool) (standing : Standing) → StandsAs b standing → is_gone standing ≡ false
not_gone_as true stands.Kept so = refl
not_gone_as true (stands.Found next) so = refl
not_gone_as true stands.Added so = absurd so
not_gone_as true stands.Gone so = absurd so
not_gone_as false stands.Added so = refl
not_gone_as false stands.Kept so = absurd so
not_gone_as false (stands.Found next) so = absurd so
not_gone_as false stands.Gone so = absurd so

-- THE CELLS OF TABLES

cells_joined : (xs ys : List TableAnew) (n : ℕ) → cells_anew (xs ++ ys) n ≡ cells_anew xs n + cells_anew ys n
cells_joined [] ys n = omega arith
cells_joined (x ∷ xs) ys n = omega (arith, cells_joined xs ys n)

cells_kept : (columns : List ColumnDef) (places : List Place) (rows : List (List ValueRef)) → cells_of (map (λ row. keyed columns places (plain_row row)) rows) ≡ rows
cells_kept columns places [] = refl
cells_kept columns places (row ∷ rows) = ap (λ (l : List (List ValueRef)). row ∷ l) (cells_kept columns places rows)

sum_staying : (d : Database) (q : List ℕ → Bool) (n : ℕ) (es : Tables) → AllByRecursion (λ (e : List ℕ × TableCells). find list_cmp e.0 d.tables ≡ Some e.1) es
    → cells_anew (map (table_staying d) (filter (λ (e : List ℕ × TableCells). q e.0) es)) n ≡ named_sum (if_passing q (uses_of d n)) es
sum_staying d q n [] found = refl
sum_staying d q n (e ∷ es) found = by_test (q e.0)
    (λ b.
    let here : rows_uses (rows_of e.1) n ≡ uses_of d n e.0 = ap (λ (o : Option TableCells). rows_uses (unwrap_or (option_map rows_of o) []) n) (sym found.0) in
    let cells : cells_naming (table_staying d e).rows n ≡ rows_uses (rows_of e.1) n =
    naming_cells (cells_of (table_staying d e).rows) n ∙ ap (λ (rows : List (List ValueRef)). rows_uses rows n) (cells_kept e.1.columns d.pool.places (rows_of e.1)) in
    rw b (omega (arith, here, cells, sum_staying d q n es found.1)))
    (λ b. rw b (omega (arith, sum_staying d q n es found.1)))

-- TABLES THAT ARE NOT STORED ANEW

module _ (name : List ℕ) where
  abbrev IsIt : TableAnew → Bool
  IsIt table = bytes_eq table.name name

  no_entry : is_schema_table name ≡ false → (es : List TableOfRecords) → list_any (λ m. bytes_eq m name) (filter (λ m. not (is_schema_table m)) (map (λ (e : TableOfRecords). e.0) es)) ≡ false
      → is_some (find list_cmp name es) ≡ false
  no_entry plain [] none = refl
  no_entry plain (e ∷ es) none = by_test (is_schema_table e.0)
      (λ s. by_test (eq_by_cmp list_cmp name e.0)
      (λ u. yes_is_no (is_schema_table name) (ap is_schema_table (exact_names name e.0 u) ∙ s) plain)
      (λ u. rw u (no_entry plain es (rw s at none))))
      (λ s.
      let q = neither (bytes_eq e.0 name) (list_any (λ m. bytes_eq m name) (filter (λ m. not (is_schema_table m)) (map (λ (e : TableOfRecords). e.0) es))) (rw s at none) in
      let apart : eq_by_cmp list_cmp name e.0 ≡ false = names_turn e.0 name ∙ q.0 in
      rw apart (no_entry plain es q.1))

  not_longer : (d : Database) (t : TransformDef) (table : TableInHand) (es : TablesTold) → find list_cmp name es ≡ Some table → is_none (records_for name t) ≡ true
      → list_any IsIt (map (table_lengthened d) (filter (λ (e : List ℕ × TableInHand). is_lengthened e.1 && is_none (records_for e.0 t)) es)) ≡ false → is_lengthened table ≡ false
  not_longer d t table [] found none h = none_is found
  not_longer d t table (e ∷ es) found none h =
      let test = is_lengthened e.1 && is_none (records_for e.0 t) in
      let rest = list_any IsIt (map (table_lengthened d) (filter (λ (e : List ℕ × TableInHand). is_lengthened e.1 && is_none (records_for e.0 t)) es)) in
      by_test (eq_by_cmp list_cmp name e.0)
      (λ u.
      let here : e.1 ≡ table = some_is e.1 table (rw u at found) in
      by_test test
      (λ b. yes_is_no (bytes_eq e.0 name) (sym (names_turn e.0 name) ∙ u) (neither (bytes_eq e.0 name) rest (rw b at h)).0)
      (λ b. ap is_lengthened (sym here) ∙ not_first (is_lengthened e.1) (is_none (records_for e.0 t)) b (ap (λ (m : List ℕ). is_none (records_for m t)) (sym (exact_names name e.0 u)) ∙ none)))
      (λ u. by_test test
      (λ b. not_longer d t table es (rw u at found) none (neither (bytes_eq e.0 name) rest (rw b at h)).1)
      (λ b. not_longer d t table es (rw u at found) none (rw b at h)))

  untold_not_longer : (d : Database) → is_lengthened (untold_table d name) ≡ false
  untold_not_longer d = by_test (has_table name d) (λ b. rw b refl) (λ b. rw b refl)

-- a table that has its columns of the old package, and none that are added
abbrev StaysAs : Pair → List ℕ → Bool → Standing → List ColumnDef → Type 0
StaysAs p name b standing added = (b ≡ true) × (added ≡ []) × (columns_of_package p.old.database name standing ≡ columns_in_table p.old name)

stood : (p : Pair) (name : List ℕ) (b : Bool) (standing : Standing) (added : List ColumnDef) → StandsAs b standing → (is_added standing || (not (is_gone standing) && nat_lt 0 (length added))) ≡ false → StaysAs p name b standing added
stood p name true stands.Kept added stands_so h = (refl, none_long added h, refl)
stood p name true (stands.Found next) added stands_so h = (refl, none_long added h, refl)
stood p name true stands.Added added stands_so h = absurd stands_so
stood p name true stands.Gone added stands_so h = absurd stands_so
stood p name false stands.Added added stands_so h = yes_is_no true refl h
stood p name false stands.Kept added stands_so h = absurd stands_so
stood p name false (stands.Found next) added stands_so h = absurd stands_so
stood p name false stands.Gone added stands_so h = absurd stands_so

-- FROM A SCHEMA THAT HAS THE NEW COLUMNS

module _ (takes : TakenPlacesHoldTheirText) (gives : GivenBackTakesOne) (p : Pair) (t : TransformDef) (passing : ErrorConditions) (is : made p ≡ Ok t) (can : CanHaveRecords p) (schema : SchemaInHand)
    (columns : AllByRecursion (λ name. HasNewColumns p.old p.new name (table_in_hand p.old.database schema.tables name)) (told_names p.new))
    (streams : AllByRecursion (HoldsStreams p.old) (told_names p.new)) (named : AreNamed p schema.tables schema.tables) (beside : Uses)
    (enough : (n : ℕ) → cells_to_change p.old.database t.tables n + beside n ≤ room schema.pool.places n)
    (texts : (n : ℕ) → 0 < cells_to_change p.old.database t.tables n + beside n → text_at schema.pool.places n ≡ text_at p.old.database.pool.places n)
    (fits : length schema.pool.places + texts_to_come p t.tables ≤ 16777215) where
  abbrev d : Database
  d = p.old.database

  abbrev change : SchemaChange
  change = change_with p.old t passing

  abbrev cells : Uses
  cells = cells_to_change p.old.database t.tables

  abbrev begun : TablesInHand
  begun = tables_begun change schema

  abbrev left : Uses
  left n = room schema.pool.places n - cells n

  pub changed : (after : TablesInHand) × (done : List TableAnew) × (tables_in_turn change schema.tables 0 begun t.tables ≡ Ok after) × AreChanged p t passing left t.tables begun after done
  changed =
      let Ready = λ (name : List ℕ). HasNewColumns p.old p.new name (table_in_hand d schema.tables name) × HoldsStreams p.old name in
      let has = both_all (λ name. HasNewColumns p.old p.new name (table_in_hand d schema.tables name)) (HoldsStreams p.old) (told_names p.new) columns streams in
      let in_transform = all_in_transform p t is (λ name. is_schema_table name ≡ false → Ready name) (of_tables p Ready has) in
      let ready = texts_ready p schema.tables begun t.tables (λ n some. texts n (omega (arith, some))) in_transform in
      let counted : CountsCellsOf cells left schema.pool.places = record {
        counts = λ n one. omega (arith, enough n, room_at schema.pool.places n one);
        from_one = omega (arith, enough 0);
      } in
      made_tables_are_changed_in_turn takes gives p t schema.tables passing left begun 0 is can ready counted fits

  abbrev pub after : TablesInHand
  after = changed.0

  abbrev done : List TableAnew
  done = changed.1

  are : AreChanged p t passing left t.tables begun after done
  are = changed.3

  abbrev pub end : TablesInHand
  end = with_lengthened change schema.tables after

  abbrev alone : List TableAnew
  alone = map (table_lengthened d) (lengthened_alone t schema.tables)

  pub rows_ran : rows_changed change schema ≡ Ok (changed_with schema.tables end)
  rows_ran = ap (λ (r : Result TablesInHand Refusal). (r >>= λ s. Ok (with_lengthened change schema.tables s)) >>= λ tables. Ok (changed_with schema.tables tables)) changed.2

  -- the tables that are stored anew
  abbrev IsNewAnew : TableAnew → Type 0
  IsNewAnew table = is_schema_table table.name ≡ false → HasNewRows p t passing after.pool.places table

  new_anew : (tables : List TableAnew) → AllByRecursion (HasNewRows p t passing after.pool.places) tables → AllByRecursion IsNewAnew tables
  new_anew [] h = tt
  new_anew (table ∷ tables) h = ((λ _. h.0), new_anew tables h.1)

  systems_new : AllByRecursion IsNewAnew (systems_anew t schema)
  systems_new = by_test (changes_schema t)
      (λ b. rw b ((λ s. yes_is_no (is_schema_table tables_name) refl s), ((λ s. yes_is_no (is_schema_table columns_name) refl s), tt)))
      (λ b. rw b tt)

  pub end_anew : AllByRecursion IsNewAnew end.tables
  end_anew = all_joined IsNewAnew after.tables alone
      (subst (AllByRecursion IsNewAnew) (sym are.tables) (all_joined IsNewAnew (systems_anew t schema) done systems_new (new_anew done are.rows)))
      (new_anew alone (alone_new p t passing after.pool.places schema.tables named columns (tables_without_records_stay p t is can) schema.tables named.each (each_found schema.tables named.sorted)))

  -- texts that are left
  module _ (good : List ℕ → Bool) (told : (name : List ℕ) → AllByRecursion (IsGoodTold good) (told_rows p.new name 0)) where
    none_anew : (n : ℕ) → good (text_at after.pool.places n) ≡ false → (tables : List TableAnew) → AllByRecursion (HasNewRows p t passing after.pool.places) tables → cells_anew tables n ≡ 0
    none_anew n bad [] h = refl
    none_anew n bad (table ∷ tables) h = omega (
      arith,
      naming_cells (cells_of table.rows) n,
      none_of_rows good after.pool.places n bad table.rows
          (values_good good p.old.streams (table_change table.name table.columns t passing) after.pool.places table.rows (told_rows p.new table.name 0) h.0.1 (told table.name)),
      none_anew n bad tables h.1,
    )

    pub end_good : HoldsGood good cells schema.pool.places → (n : ℕ) → 0 < room after.pool.places n → good (text_at after.pool.places n) ≡ true
    end_good holds n some = by_test (good (text_at after.pool.places n))
        (λ u. u)
        (λ bad.
        let total = counted_room (cells_anew done) left after.pool.places are.counted n in
        let nothing = none_anew n bad done are.rows in
        ap good (are.kept n (omega (arith, some, total, nothing))) ∙ holds n (omega (arith, some, total, nothing)))

  -- tables that stay as they are
  kept_text : (n : ℕ) → 0 < beside n → text_at after.pool.places n ≡ text_at d.pool.places n
  kept_text n some = are.kept n (omega (arith, some, enough n)) ∙ texts n (omega (arith, some))

  module _ (name : List ℕ) (plain : is_schema_table name ≡ false) (is_named : IsNamed p name) (not_anew : is_anew end name ≡ false) where
    abbrev table : TableInHand
    table = table_in_hand d schema.tables name

    apart_now : (list_any (IsIt name) after.tables ≡ false) × (list_any (IsIt name) alone ≡ false)
    apart_now = neither (list_any (IsIt name) after.tables) (list_any (IsIt name) alone) (sym (list_any-append (IsIt name) after.tables alone) ∙ not_anew)

    apart_done : list_any (IsIt name) done ≡ false
    apart_done = (neither (list_any (IsIt name) (systems_anew t schema)) (list_any (IsIt name) done)
        (sym (list_any-append (IsIt name) (systems_anew t schema) done) ∙ ap (list_any (IsIt name)) (sym are.tables) ∙ apart_now.0)).1

    pub without_record : is_some (find list_cmp name t.tables) ≡ false
    without_record = no_entry name plain t.tables (ap (list_any (λ m. bytes_eq m name)) (sym are.names) ∙ list_any-map (λ m. bytes_eq m name) (λ (table : TableAnew). table.name) done ∙ apart_done)

    none : records_for name t ≡ None
    none = none_there (records_for name t) without_record

    not_lengthened : is_lengthened table ≡ false
    not_lengthened = by_found (find list_cmp name schema.tables) refl
      where
        by_found : (o : Option TableInHand) → find list_cmp name schema.tables ≡ o → is_lengthened (unwrap_or o (untold_table d name)) ≡ false
        by_found None found = untold_not_longer name d
        by_found (Some u) found = not_longer name d t u schema.tables found (ap is_none none) apart_now.1

    has : HasNewColumns p.old p.new name table
    has = at_name (λ name. HasNewColumns p.old p.new name (table_in_hand d schema.tables name)) name (told_names p.new) columns is_named

    stays_as : StaysAs p name (has_table name d) table.standing table.added
    stays_as = stood p name (has_table name d) table.standing table.added has.stands not_lengthened

    same_shapes : shapes_of (columns_in_table p.old name) ≡ shapes_of (columns_in_table p.new name)
    same_shapes = ap shapes_of (sym ((λ i. stays_as.2 i ++ stays_as.1 i) ∙ append-nil (columns_in_table p.old name))) ∙ has.columns

    same_rows : told_rows p.old name 0 ≡ told_rows p.new name 0
    same_rows =
        let many : length (columns_in_table p.old name) ≡ length (columns_in_table p.new name) =
        sym (many_shapes (columns_in_table p.old name)) ∙ ap (λ (l : List Shape). length l) same_shapes ∙ many_shapes (columns_in_table p.new name) in
        let nothing : 0 ≡ length (columns_in_table p.new name) - columns_before d name = omega (arith, many) in
        let there = stays_as.0 in
        let stay : rows_before p.old p.new name ≡ told_rows p.new name 0 = (at_name (Stays p t) name (told_names p.new) (tables_without_records_stay p t is can) is_named none).0 in
        ap (told_rows p.old name) nothing ∙ (rw there at stay)

    pub stays_new : ((n : ℕ) → 0 < count_by (λ m. m == n) (numbers_of_rows (system_rows d name)) → 0 < beside n) → StaysNew p end name
    stays_new among = record {
      there = stays_as.0;
      columns = same_shapes;
      rows = same_rows;
      texts = λ n some. kept_text n (among n some);
    }

  -- THE CELLS THAT ARE LEFT

  -- tables that get columns and have no records have no rows
  alone_empty : (name : List ℕ) (table : TableInHand) → find list_cmp name schema.tables ≡ Some table → is_lengthened table ≡ true → is_none (records_for name t) ≡ true → IsKnown p schema.tables name
      → ((table_lengthened d (name, table)).rows ≡ []) × (has_table name d ≡ true → system_rows d name ≡ [])
  alone_empty name table found longer untold (inl is_named) =
      let at : table_in_hand d schema.tables name ≡ table = ap (λ (o : Option TableInHand). unwrap_or o (untold_table d name)) found in
      let has = subst (HasNewColumns p.old p.new name) at (at_name (λ name. HasNewColumns p.old p.new name (table_in_hand d schema.tables name)) name (told_names p.new) columns is_named) in
      let stays = at_name (Stays p t) name (told_names p.new) (tables_without_records_stay p t is can) is_named in
      let absent = none_there (records_for name t) (not_true (is_some (records_for name t)) untold) in
      let nothing = no_new_rows p t passing name table has stays absent (has_table name d) refl table.standing has.stands has.columns longer in
      let begun_none = no_rows_begun p t passing name table has stays absent nothing (has_table name d) refl table.standing has.stands in (
        ap (λ (rows : List (List ValueRef)). map (keyed (columns_in_hand d name table) d.pool.places) (map (lengthened_row (columns_of_package d name table.standing) table.added) rows)) begun_none,
        no_old_rows p t passing name table has stays absent nothing,
      )
  alone_empty name table found longer untold (inr gone) =
      let at : record { standing = stands.Gone; added = [] } ≡ table = some_is (record { standing = stands.Gone; added = [] }) table (sym gone ∙ found) in
      yes_is_no (is_lengthened table) longer (ap is_lengthened (sym at))

  abbrev is_alone : List ℕ × TableInHand → Bool
  is_alone e = is_lengthened e.1 && is_none (records_for e.0 t)

  abbrev Known : List ℕ × TableInHand → Type 0
  Known e = IsKnown p schema.tables e.0

  abbrev Found : List ℕ × TableInHand → Type 0
  Found e = find list_cmp e.0 schema.tables ≡ Some e.1

  no_cells_alone : (n : ℕ) (es : TablesTold) → AllByRecursion Known es → AllByRecursion Found es → cells_anew (map (table_lengthened d) (filter is_alone es)) n ≡ 0
  no_cells_alone n [] known found = refl
  no_cells_alone n (e ∷ es) known found = by_test (is_alone e)
      (λ b.
      let q = and_parts (is_lengthened e.1) (is_none (records_for e.0 t)) b in
      let here : cells_naming (table_lengthened d e).rows n ≡ 0 = ap (λ (rows : Rows). cells_naming rows n) (alone_empty e.0 e.1 found.0 q.0 q.1 known.0).0 in
      rw b (omega (arith, here, no_cells_alone n es known.1 found.1)))
      (λ b. rw b (no_cells_alone n es known.1 found.1))

  no_rows_alone : (m : List ℕ) (es : TablesTold) → AllByRecursion Known es → AllByRecursion Found es → list_any (IsIt m) (map (table_lengthened d) (filter is_alone es)) ≡ true → has_table m d ≡ true → system_rows d m ≡ []
  no_rows_alone m [] known found among there = yes_is_no false among refl
  no_rows_alone m (e ∷ es) known found among there = by_test (is_alone e)
      (λ b. by_test (bytes_eq e.0 m)
      (λ u.
      let q = and_parts (is_lengthened e.1) (is_none (records_for e.0 t)) b in
      let it : e.0 ≡ m = (bytes_decides e.0 m).0 u in
      ap (system_rows d) (sym it) ∙ (alone_empty e.0 e.1 found.0 q.0 q.1 known.0).1 (ap (λ (x : List ℕ). has_table x d) it ∙ there))
      (λ u. no_rows_alone m es known.1 found.1 (rw (b, u) at among) there))
      (λ b. no_rows_alone m es known.1 found.1 (rw b at among) there)

  not_it_alone : (m : List ℕ) → is_schema_table m ≡ true → (es : TablesTold) → AllByRecursion Known es → AllByRecursion Found es → list_any (IsIt m) (map (table_lengthened d) (filter is_alone es)) ≡ false
  not_it_alone m schema_name [] known found = refl
  not_it_alone m schema_name (e ∷ es) known found = by_test (is_alone e)
      (λ b. by_test (bytes_eq e.0 m)
      (λ u. not_known e.0 e.1 known.0 found.0 (and_parts (is_lengthened e.1) (is_none (records_for e.0 t)) b).0 (ap is_schema_table ((bytes_decides e.0 m).0 u) ∙ schema_name))
      (λ u. rw (b, u) (not_it_alone m schema_name es known.1 found.1)))
      (λ b. rw b (not_it_alone m schema_name es known.1 found.1))
    where
      not_known : {P : Type 0} (name : List ℕ) (table : TableInHand) → IsKnown p schema.tables name → find list_cmp name schema.tables ≡ Some table → is_lengthened table ≡ true → is_schema_table name ≡ true → P
      not_known name table (inl is_named) found longer s = yes_is_no (is_schema_table name) s (not_true (is_schema_table name) (at_name (λ name. not (is_schema_table name) ≡ true) name (told_names p.new)
          (each_passing (λ name. not (is_schema_table name)) (map (λ t. t.0) p.new.database.tables)) is_named))
      not_known name table (inr gone) found longer s =
          let at : record { standing = stands.Gone; added = [] } ≡ table = some_is (record { standing = stands.Gone; added = [] }) table (sym gone ∙ found) in
          yes_is_no (is_lengthened table) longer (ap is_lengthened (sym at))

  -- which tables are stored anew
  no_schema_name : (m : List ℕ) → is_schema_table m ≡ true → (ns : List (List ℕ)) → list_any (λ x. bytes_eq x m) (filter (λ x. not (is_schema_table x)) ns) ≡ false
  no_schema_name m s [] = refl
  no_schema_name m s (x ∷ xs) = by_test (not (is_schema_table x))
      (λ b. by_test (bytes_eq x m)
      (λ u. yes_is_no (is_schema_table x) (ap is_schema_table ((bytes_decides x m).0 u) ∙ s) (not_true (is_schema_table x) b))
      (λ u. rw (b, u) (no_schema_name m s xs)))
      (λ b. rw b (no_schema_name m s xs))

  names_done : (m : List ℕ) → list_any (IsIt m) done ≡ list_any (λ x. bytes_eq x m) (filter (λ x. not (is_schema_table x)) (map (λ (e : TableOfRecords). e.0) t.tables))
  names_done m = sym (list_any-map (λ x. bytes_eq x m) (λ (table : TableAnew). table.name) done) ∙ ap (list_any (λ x. bytes_eq x m)) are.names

  entry_found : (m : List ℕ) (es : List TableOfRecords) → list_any (λ x. bytes_eq x m) (filter (λ x. not (is_schema_table x)) (map (λ (e : TableOfRecords). e.0) es)) ≡ true → is_some (find list_cmp m es) ≡ true
  entry_found m [] among = yes_is_no false among refl
  entry_found m (e ∷ es) among = by_test (eq_by_cmp list_cmp m e.0)
      (λ u. rw u refl)
      (λ u.
      let apart : bytes_eq e.0 m ≡ false = sym (names_turn e.0 m) ∙ u in
      rw u (by_test (is_schema_table e.0) (λ s. entry_found m es (rw s at among)) (λ s. entry_found m es (rw (s, apart) at among))))

  anew_is : (m : List ℕ) → is_anew end m ≡ ((list_any (IsIt m) (systems_anew t schema) || list_any (IsIt m) done) || list_any (IsIt m) alone)
  anew_is m = list_any-append (IsIt m) after.tables alone ∙ ap (λ b. b || list_any (IsIt m) alone) (ap (list_any (IsIt m)) are.tables ∙ list_any-append (IsIt m) (systems_anew t schema) done)

  system_here : (m : List ℕ) → changes_schema t ≡ true → is_schema_table m ≡ true → list_any (IsIt m) (systems_anew t schema) ≡ true
  system_here m changes s = elim (or_cases (bytes_eq m tables_name) (bytes_eq m columns_name) s) [
    | inl b ↦ subst (λ (x : List ℕ). list_any (IsIt x) (systems_anew t schema) ≡ true) (sym ((bytes_decides m tables_name).0 b)) (rw changes refl)
    | inr b ↦ subst (λ (x : List ℕ). list_any (IsIt x) (systems_anew t schema) ≡ true) (sym ((bytes_decides m columns_name).0 b)) (rw changes refl)
  ]

  apart_from : (m x : List ℕ) → is_schema_table m ≡ false → is_schema_table x ≡ true → bytes_eq x m ≡ false
  apart_from m x plain s = by_test (bytes_eq x m)
      (λ u. yes_is_no (is_schema_table m) (ap is_schema_table (sym ((bytes_decides x m).0 u)) ∙ s) plain)
      (λ u. u)

  no_system : (m : List ℕ) → is_schema_table m ≡ false → list_any (IsIt m) (systems_anew t schema) ≡ false
  no_system m plain = by_test (changes_schema t)
      (λ b. rw (b, apart_from m tables_name plain refl, apart_from m columns_name plain refl) refl)
      (λ b. rw b refl)

  all_found : AllByRecursion Found schema.tables
  all_found = each_found schema.tables named.sorted

  module _ (n : ℕ) (goes_gone : (m : List ℕ) → has_table m p.new.database ≡ false → has_table m d ≡ true → is_gone (table_in_hand d schema.tables m).standing ≡ true)
      (lists_stay : changes_schema t ≡ false → (m : List ℕ) → is_schema_table m ≡ true → has_table m d ≡ true → is_gone (table_in_hand d schema.tables m).standing ≡ false) where
    -- the cells of the tables that stay as they are
    abbrev pub rest : List ℕ → ℕ
    rest m = if is_schema_table m then (if changes_schema t then 0 else uses_of d n m) else if not (has_table m p.new.database) then 0 else if is_some (find list_cmp m t.tables) then 0 else uses_of d n m

    abbrev staying_uses : List ℕ → ℕ
    staying_uses m = if_passing (stays d schema.tables end) (uses_of d n) m

    abbrev IsRest : List ℕ → Type 0
    IsRest m = staying_uses m ≡ rest m

    absent_rest : (m : List ℕ) → has_table m d ≡ false → IsRest m
    absent_rest m absent =
        let nothing : uses_of d n m ≡ 0 = ap (λ (rows : List (List ValueRef)). rows_uses rows n) (no_rows_there d m absent) in
        zero_if (stays d schema.tables end m) (uses_of d n m) nothing
        ∙ sym (zero_rest (is_schema_table m) (changes_schema t) (has_table m p.new.database) (is_some (find list_cmp m t.tables)) (uses_of d n m) nothing)

    list_rest : (m : List ℕ) → has_table m d ≡ true → is_schema_table m ≡ true → IsRest m
    list_rest m there s = by_test (changes_schema t)
        (λ b. let a : is_anew end m ≡ true = anew_is m ∙ ap (λ c. (c || list_any (IsIt m) done) || list_any (IsIt m) alone) (system_here m b s) in rw (a, s, b) refl)
        (λ b.
        let none : list_any (IsIt m) (systems_anew t schema) ≡ false = rw b refl in
        let done_none : list_any (IsIt m) done ≡ false = names_done m ∙ no_schema_name m s (map (λ (e : TableOfRecords). e.0) t.tables) in
        let a : is_anew end m ≡ false = anew_is m ∙ (λ i. (none i || done_none i) || not_it_alone m s schema.tables named.each all_found i) in
        let g = lists_stay b m s there in
        rw (a, g, s, b) refl)

    plain_rest : (m : List ℕ) → has_table m d ≡ true → is_schema_table m ≡ false → has_table m p.new.database ≡ true → IsRest m
    plain_rest m there s new =
        let is_named : IsNamed p m = passes_among (λ name. not (is_schema_table name)) m (map (λ t. t.0) p.new.database.tables) (sym (is_some-find list_cmp m p.new.database.tables) ∙ new) (ap not s) in
        by_test (is_some (find list_cmp m t.tables))
        (λ f. by_test (is_anew end m)
        (λ a. rw (a, s, new, f) refl)
        (λ a. yes_is_no (is_some (find list_cmp m t.tables)) f (without_record m s is_named a)))
        (λ f. by_test (is_anew end m)
        (λ a.
        let done_none : list_any (IsIt m) done ≡ false = by_test (list_any (IsIt m) done)
        (λ u. yes_is_no (is_some (find list_cmp m t.tables)) (entry_found m t.tables (sym (names_done m) ∙ u)) f)
        (λ u. u) in
        let among : list_any (IsIt m) alone ≡ true = sym (λ i. (no_system m s i || done_none i) || list_any (IsIt m) alone) ∙ sym (anew_is m) ∙ a in
        let nothing : uses_of d n m ≡ 0 = ap (λ (rows : List (List ValueRef)). rows_uses rows n) (no_rows_alone m schema.tables named.each all_found among there) in
        rw (a, s, new, f) (sym nothing))
        (λ a.
        let has = at_name (λ name. HasNewColumns p.old p.new name (table_in_hand d schema.tables name)) m (told_names p.new) columns is_named in
        let g = not_gone_as (has_table m d) (table_in_hand d schema.tables m).standing has.stands in
        rw (a, g, s, new, f) refl))

    each_rest : (m : List ℕ) → IsRest m
    each_rest m = by_test (has_table m d)
        (λ there. by_test (is_schema_table m)
        (λ s. list_rest m there s)
        (λ s. by_test (has_table m p.new.database)
        (λ new. plain_rest m there s new)
        (λ new.
        let g = goes_gone m new there in
        by_test (is_anew end m) (λ a. rw (a, s, new) refl) (λ a. rw (a, g, s, new) refl))))
        (λ absent. absent_rest m absent)

    -- each place counts the cells that are left, where it did so before the tables were changed
    pub counts_end : T (is_sorted list_cmp d.tables) → room schema.pool.places n ≡ cells n + (cells_anew (systems_anew t schema) n + named_sum rest d.tables) → room after.pool.places n ≡ cells_anew (tables_left d schema.tables end) n
    counts_end sorted total = omega (
      arith,
      total,
      counted_room (cells_anew done) left after.pool.places are.counted n,
      cells_joined end.tables (map (table_staying d) (filter (λ e. stays d schema.tables end e.0) d.tables)) n,
      cells_joined after.tables alone n,
      ap (λ (l : List TableAnew). cells_anew l n) are.tables,
      cells_joined (systems_anew t schema) done n,
      no_cells_alone n schema.tables named.each all_found,
      sum_staying d (stays d schema.tables end) n d.tables (each_found d.tables sorted),
      sum_same staying_uses rest each_rest d.tables,
    )

  -- WHICH TABLES THEY ARE

  abbrev IsOfNew : List ℕ → Type 0
  IsOfNew name = is_schema_table name ≡ false → has_table name p.new.database ≡ true

  abbrev IsNewTable : TableAnew → Type 0
  IsNewTable table = IsOfNew table.name

  first_names : (es : List TableOfRecords) → AllByRecursion (λ (e : TableOfRecords). IsOfNew e.0) es → AllByRecursion IsOfNew (map (λ (e : TableOfRecords). e.0) es)
  first_names [] h = tt
  first_names (e ∷ es) h = (h.0, first_names es h.1)

  of_names : (tables : List TableAnew) → AllByRecursion IsOfNew (map (λ (table : TableAnew). table.name) tables) → AllByRecursion IsNewTable tables
  of_names [] h = tt
  of_names (table ∷ tables) h = (h.0, of_names tables h.1)

  done_new : AllByRecursion IsNewTable done
  done_new = of_names done (subst (AllByRecursion IsOfNew) (sym are.names)
      (all_kept IsOfNew (λ name. not (is_schema_table name)) (map (λ (e : TableOfRecords). e.0) t.tables)
      (first_names t.tables (all_in_transform p t is IsOfNew (of_tables p (λ name. has_table name p.new.database ≡ true) (all_there p.new))))))

  known_new : (name : List ℕ) (table : TableInHand) → IsKnown p schema.tables name → find list_cmp name schema.tables ≡ Some table → is_lengthened table ≡ true → has_table name p.new.database ≡ true
  known_new name table (inl is_named) found longer = at_name (λ name. has_table name p.new.database ≡ true) name (told_names p.new) (all_there p.new) is_named
  known_new name table (inr gone) found longer =
      let at : record { standing = stands.Gone; added = [] } ≡ table = some_is (record { standing = stands.Gone; added = [] }) table (sym gone ∙ found) in
      yes_is_no (is_lengthened table) longer (ap is_lengthened (sym at))

  alone_are_new : (es : TablesTold) → AllByRecursion Known es → AllByRecursion Found es → AllByRecursion IsNewTable (map (table_lengthened d) (filter is_alone es))
  alone_are_new [] known found = tt
  alone_are_new (e ∷ es) known found = by_test (is_alone e)
      (λ b. rw b ((λ _. known_new e.0 e.1 known.0 found.0 (and_parts (is_lengthened e.1) (is_none (records_for e.0 t)) b).0), alone_are_new es known.1 found.1))
      (λ b. rw b (alone_are_new es known.1 found.1))

  systems_of_new : AllByRecursion IsNewTable (systems_anew t schema)
  systems_of_new = by_test (changes_schema t)
      (λ b. rw b ((λ s. yes_is_no (is_schema_table tables_name) refl s), ((λ s. yes_is_no (is_schema_table columns_name) refl s), tt)))
      (λ b. rw b tt)

  pub end_new : AllByRecursion IsNewTable end.tables
  end_new = all_joined IsNewTable after.tables alone
      (subst (AllByRecursion IsNewTable) (sym are.tables) (all_joined IsNewTable (systems_anew t schema) done systems_of_new done_new))
      (alone_are_new schema.tables named.each all_found)
