-- The records of a transform that is made, all applied to the old package: what is in hand then.
use Rattle.msi_transform_laws.proofs.ExactListsLemmas.{left_exactly}
use Rattle.msi_transform_laws.specs.TablesRemoved.{cells_removed}
use Rattle.msi_transform_laws.specs.SchemaMade.{cells_gone}
use Rattle.msi_transform_rows.specs.RowChanges.{cells_of}
use Rattle.std.specs.Cmp.Lexicographic.{bytes_decides}
use Rattle.std.specs.Ordering.{eq_by_cmp}
use Rattle.std.proofs.Common.{◌≡◌, inl, inr, ℕ, zero, suc, ◌+◌, ◌-◌, ◌<◌, ◌≤◌, Bool, true, false, not, ◌||◌, List, [], ◌∷◌, length, map, refl, sym, ap, subst, ◌∙◌, arith}
use Rattle.std.specs.Prelude.{Option, Result, Ok, is_some, if◌then◌else◌, count_by, ◌==◌, slice_get, unwrap_or, bytes_eq}
use Rattle.std.specs.FinMap.{find}
use Rattle.std.specs.FinMap.Entries.{is_some-find}
use Rattle.std.specs.List.{AllByRecursion, list_all, list_any}
use Rattle.std.specs.Option.{option_map_or}
use Rattle.std.proofs.lemmas.Bool.{cases_lt, eqb-true, lt-ltb}
use Rattle.msi_base.specs.Lists.{list_cmp}
use Rattle.msi_base.specs.declared.codepage.CodePage.{CodePage}
use Rattle.msi_base.specs.declared.codepage.CodePage.TheVariants.{Utf8}
use Rattle.msi_base.specs.declared.errors.ErrorKind.{ErrorKind}
use Rattle.msi_base.specs.Refusals.{first_refusal, unless}
use Rattle.msi_base.proofs.BoolLemmas.{by_test, yes_is_no}
use Rattle.msi_pool.specs.Pool.{Place}
use Rattle.msi_pool.specs.FirstFit.{count_of}
use Rattle.msi_pool.specs.FirstFitLaws.{text_at, TakenPlacesHoldTheirText, GivenBackTakesOne}
use Rattle.msi_table.specs.Census.{numbers_of_rows}
use Rattle.msi_table_cells.specs.declared.cell.ValueRef.{ValueRef}
use Rattle.msi_database_schema.specs.System.{is_schema_table, columns_name, tables_name}
use Rattle.msi_database_schema.proofs.AccountLemmas.{Uses, room}
use Rattle.msi_database_changes.specs.Database.{Database, has_table}
use Rattle.msi_database_changes.proofs.text_counts.RowsLemmas.{rows_uses}
use Rattle.msi_transform.specs.Transforms.{TransformDef, shapes_of}
use Rattle.msi_transform.specs.declared.conditions.ErrorConditions.{ErrorConditions}
use Rattle.msi_transform_rows.specs.RecordRefusals.{Refusal, nowhere, ◌>>=◌}
use Rattle.msi_transform_rows.specs.TableRecords.{changes_schema}
use Rattle.msi_transform_schema.specs.SchemaApplying.{schema_applied, schema_changed, schema_untouched, system_rows}
use Rattle.msi_transform_schema.specs.SchemaChanges.{SchemaChange, SchemaInHand, TableInHand, TablesTold, is_gone, table_in_hand, untold_table}
use Rattle.msi_transform_schema.specs.declared.schema.Standing.TheVariants as stands
use Rattle.msi_transform_applying.specs.Applying.{TablesInHand, change_with, changed_with, is_anew, page_after, reads_back, rows_changed, tables_begun, tables_changed, systems_anew, tables_left}
use Rattle.msi_transform_making.specs.Making.{Pair, columns_in_table, is_lacking, made, names_beside, reasons, told_names, told_tables}
use Rattle.msi_transform_laws.specs.ExactPackages.{IsExact, IsInOrder}
use Rattle.msi_transform_laws.specs.RowsBegun.{HasNewColumns}
use Rattle.msi_transform_laws.specs.TablesChanged.{cells_to_change, texts_to_come, cells_anew}
use Rattle.msi_transform_laws.specs.TextsLeft.{CanTakeTransform}
use Rattle.msi_transform_laws.specs.TransformsApplied.{HasNewTables, StaysNew}
use Rattle.msi_transform_laws.proofs.AppliedRecordsLemmas.{naming_cells}
use Rattle.msi_transform_laws.proofs.ExactPackagesLemmas.{unchanged, uses_of, names_turn, tables_sorted}
use Rattle.msi_transform_laws.proofs.FitPackagesLemmas.{no_lack}
use Rattle.msi_transform_laws.proofs.MadeAppliedLemmas.{all_read}
use Rattle.msi_transform_laws.proofs.MadeRecordsLemmas.{made_by}
use Rattle.msi_transform_laws.proofs.NamedSumsLemmas.{sum_found, named_sum, only_at, sum_at, sum_both, sum_same}
use Rattle.msi_transform_laws.proofs.OldTextsLemmas.{all_parts, beside, columns_good, come_good, counts_begun, held_at_first, held_then, new_in_transform, new_told}
use Rattle.msi_transform_laws.proofs.PackagesInOrderLemmas.{can_change, can_have, none_gone, same_columns, streams_held}
use Rattle.msi_transform_laws.proofs.RowsLeftLemmas.{end, end_anew, end_good, rows_ran, stays_new, without_record, counts_end, end_new}
use Rattle.msi_transform_laws.proofs.SameColumnsLemmas.{kept_by, page_is, page_unrefused}
use Rattle.msi_transform_laws.proofs.SchemaAppliedLemmas.{enough_of, uses_in_schema}
use Rattle.msi_transform_laws.proofs.SchemaListsLemmas.{each_passing}
use Rattle.msi_transform_laws.proofs.SchemaMadeLemmas.{AreNamed, IsGone, IsNamed, whole_schema_good, at_name, passes_among}
use Rattle.msi_transform_laws.proofs.TableChangedLemmas.{all_there, each_among}
use Rattle.msi_transform_laws.proofs.TablesChangedLemmas.{no_rows_there, sorted_in_transform}

not_true : (b : Bool) → not b ≡ true → b ≡ false
not_true true h = sym h
not_true false h = refl

not_false : (b : Bool) → not b ≡ false → b ≡ true
not_false true h = refl
not_false false h = sym h

neither : (a b : Bool) → (a || b) ≡ false → (a ≡ false) × (b ≡ false)
neither true b h = yes_is_no true refl h
neither false b h = (refl, h)

-- texts in use that pass a test where all of the new package do
abbrev pub EndsGood : Pair → TablesInHand → Type 0
EndsGood p after = (good : List ℕ → Bool) → ((n : ℕ) → 0 < room p.new.database.pool.places n → good (text_at p.new.database.pool.places n) ≡ true)
    → (n : ℕ) → 0 < room after.pool.places n → good (text_at after.pool.places n) ≡ true

module _ (takes : TakenPlacesHoldTheirText) (gives : GivenBackTakesOne) (p : Pair) (t : TransformDef) (passing : ErrorConditions) (is : made p ≡ Ok t) (exact : IsExact p.old) (order : IsInOrder p.new)
    (ready : CanTakeTransform p t passing) where
  abbrev d : Database
  d = p.old.database

  abbrev change : SchemaChange
  change = change_with p.old t passing

  abbrev cells : Uses
  cells = cells_to_change p.old.database t.tables

  abbrev pub Ran : Type 0
  Ran = (told : TablesTold) × (after : TablesInHand) × (tables_changed change p.old_page ≡ Ok (changed_with told after)) × HasNewTables p t passing told after × EndsGood p after
      × ((n : ℕ) → room after.pool.places n ≡ cells_anew (tables_left d told after) n)

  -- the cells of a table that stays are among those that aren't changed
  among_beside : (name : List ℕ) → is_schema_table name ≡ false → has_table name p.new.database ≡ true → is_some (find list_cmp name t.tables) ≡ false → has_table name d ≡ true
      → (n : ℕ) → 0 < count_by (λ m. m == n) (numbers_of_rows (system_rows d name)) → 0 < beside p t is exact order n
  among_beside name plain new absent there n some =
      let f = unchanged p.old exact p.new.database order.has_tables order.has_columns t.tables (sorted_in_transform p t is) (new_in_transform p t is) n in
      let here : f name ≡ uses_of d n name = rw (plain, new, absent) refl in
      omega (arith, some, naming_cells (system_rows d name) n, here, sum_found name f d.tables there)

  among_any : (name : List ℕ) → is_schema_table name ≡ false → has_table name p.new.database ≡ true → is_some (find list_cmp name t.tables) ≡ false
      → (n : ℕ) → 0 < count_by (λ m. m == n) (numbers_of_rows (system_rows d name)) → 0 < beside p t is exact order n
  among_any name plain new absent n some = by_test (has_table name d)
      (λ b. among_beside name plain new absent b n some)
      (λ b. absurd (omega (arith, some, naming_cells (system_rows d name) n, ap (λ (rows : List (List ValueRef)). rows_uses rows n) (no_rows_there d name b))))

  all_stay : (after : TablesInHand) → ((name : List ℕ) → is_schema_table name ≡ false → IsNamed p name → has_table name p.new.database ≡ true → is_anew after name ≡ false → StaysNew p after name)
      → (names : List (List ℕ)) → AllByRecursion (λ name. not (is_schema_table name) ≡ true) names → AllByRecursion (IsNamed p) names → AllByRecursion (λ name. has_table name p.new.database ≡ true) names
      → AllByRecursion (λ name. is_anew after name ≡ false → StaysNew p after name) names
  all_stay after f [] plain named new = tt
  all_stay after f (n ∷ ns) plain named new = (f n (not_true (is_schema_table n) plain.0) named.0 new.0, all_stay after f ns plain.1 named.1 new.1)

  each_stays : (after : TablesInHand) → ((name : List ℕ) → is_schema_table name ≡ false → IsNamed p name → has_table name p.new.database ≡ true → is_anew after name ≡ false → StaysNew p after name)
      → AllByRecursion (λ name. is_anew after name ≡ false → StaysNew p after name) (told_names p.new)
  each_stays after f = all_stay after f (told_names p.new) (each_passing (λ name. not (is_schema_table name)) (map (λ t. t.0) p.new.database.tables)) (each_among (told_names p.new)) (all_there p.new)

  are_gone : (tables : TablesTold) (names : List (List ℕ)) → AllByRecursion (IsGone p tables) names → AllByRecursion (λ name. is_gone (table_in_hand d tables name).standing ≡ true) names
  are_gone tables [] h = tt
  are_gone tables (n ∷ ns) h = (ap (λ (o : Option TableInHand). is_gone (unwrap_or o (untold_table d n)).standing) h.0, are_gone tables ns h.1)

  -- THE CELLS THAT ARE LEFT

  among_gone : (m : List ℕ) → has_table m d ≡ true → has_table m p.new.database ≡ false → list_any (eq_by_cmp list_cmp m) (names_beside p.old.database p.new.database) ≡ true
  among_gone m there goes = passes_among (λ name. not (has_table name p.new.database)) m (map (λ t. t.0) d.tables) (sym (is_some-find list_cmp m d.tables) ∙ there) (ap not goes)

  gone_at : (tables : TablesTold) → AllByRecursion (IsGone p tables) (names_beside p.old.database p.new.database) → (m : List ℕ) → has_table m p.new.database ≡ false → has_table m d ≡ true
      → is_gone (table_in_hand d tables m).standing ≡ true
  gone_at tables gone m new there = ap (λ (o : Option TableInHand). is_gone (unwrap_or o (untold_table d m)).standing) (at_name (IsGone p tables) m (names_beside p.old.database p.new.database) gone (among_gone m there new))

  abbrev rest : ℕ → List ℕ → ℕ
  rest n m = if is_schema_table m then (if changes_schema t then 0 else uses_of d n m) else if not (has_table m p.new.database) then 0 else if is_some (find list_cmp m t.tables) then 0 else uses_of d n m

  abbrev unchanged_at : ℕ → List ℕ → ℕ
  unchanged_at n = unchanged p.old exact p.new.database order.has_tables order.has_columns t.tables (sorted_in_transform p t is) (new_in_transform p t is) n

  changed_total : (schema : SchemaInHand) → changes_schema t ≡ true → (n : ℕ) → uses_in_schema schema n + (cells n + beside p t is exact order n) ≡ room schema.pool.places n
      → room schema.pool.places n ≡ cells n + (cells_anew (systems_anew t schema) n + named_sum (rest n) d.tables)
  changed_total schema changes n exactly =
      let systems : cells_anew (systems_anew t schema) n ≡ uses_in_schema schema n = rw changes (omega (arith, naming_cells (cells_of schema.listed) n, naming_cells (cells_of schema.described) n)) in
      omega (arith, exactly, systems, sum_same (rest n) (unchanged_at n) (λ m. rw changes refl) d.tables)

  -- where the schema is untouched, `_Tables` and `_Columns` stay too
  abbrev with_lists : ℕ → List ℕ → ℕ
  with_lists n m = unchanged_at n m + (only_at tables_name (uses_of d n) m + only_at columns_name (uses_of d n) m)

  list_parts : changes_schema t ≡ false → (n : ℕ) (m : List ℕ) → rest n m ≡ with_lists n m
  list_parts untouched n m = by_test (bytes_eq m tables_name)
      (λ a. subst (λ (x : List ℕ). rest n x ≡ with_lists n x) (sym ((bytes_decides m tables_name).0 a)) (rw untouched (omega arith)))
      (λ a. by_test (bytes_eq m columns_name)
      (λ b. subst (λ (x : List ℕ). rest n x ≡ with_lists n x) (sym ((bytes_decides m columns_name).0 b)) (rw untouched (omega arith)))
      (λ b.
      let first : eq_by_cmp list_cmp tables_name m ≡ false = names_turn m tables_name ∙ a in
      let second : eq_by_cmp list_cmp columns_name m ≡ false = names_turn m columns_name ∙ b in
      let plain : is_schema_table m ≡ false = (λ i. a i || b i) in
      rw (first, second, plain) (omega arith)))

  untouched_total : changes_schema t ≡ false → names_beside p.old.database p.new.database ≡ [] → (n : ℕ)
      → room d.pool.places n ≡ cells n + (cells_anew (systems_anew t (schema_untouched d)) n + named_sum (rest n) d.tables)
  untouched_total untouched none n =
      let systems : cells_anew (systems_anew t (schema_untouched d)) n ≡ 0 = rw untouched refl in
      let nothing : cells_gone p n ≡ 0 = ap (λ (names : List (List ℕ)). cells_removed d names n) none in
      let tables_in = tables_sorted p.old exact.order in
      let lists : (if is_some (find list_cmp tables_name d.tables) then uses_of d n tables_name else 0) ≡ uses_of d n tables_name = rw exact.order.has_tables refl in
      let describes : (if is_some (find list_cmp columns_name d.tables) then uses_of d n columns_name else 0) ≡ uses_of d n columns_name = rw exact.order.has_columns refl in
      omega (
        arith,
        systems,
        nothing,
        lists,
        describes,
        all_parts p t is exact order n,
        sum_same (rest n) (with_lists n) (list_parts untouched n) d.tables,
        sum_both (unchanged_at n) (λ m. only_at tables_name (uses_of d n) m + only_at columns_name (uses_of d n) m) d.tables,
        sum_both (only_at tables_name (uses_of d n)) (only_at columns_name (uses_of d n)) d.tables,
        sum_at tables_name (uses_of d n) d.tables tables_in,
        sum_at columns_name (uses_of d n) d.tables tables_in,
      )

  -- WHERE TABLES GO, COME OR GET COLUMNS

  ran_changed : changes_schema t ≡ true → Ran
  ran_changed changes =
      let can = can_have p t passing is exact order ready in
      let adds = can_change p t passing is exact order ready in
      let others : Uses = λ n. cells n + beside p t is exact order n in
      let (schema, schema_ran, columns, are, named, gone, stays, exactly) = whole_schema_good p t is can adds takes gives passing others (counts_begun p t is exact order) (omega (arith, ready.room)) in
      let enough : (n : ℕ) → cells n + beside p t is exact order n ≤ room schema.pool.places n = λ n. omega (arith, enough_of others schema are.counted n) in
      let fits : length schema.pool.places + texts_to_come p t.tables ≤ 16777215 = omega (arith, ready.room, are.longer) in
      let streams = streams_held p t passing is exact order ready in
      let after = end takes gives p t passing is can schema columns streams named (beside p t is exact order) enough are.kept fits in (
        schema.tables,
        after,
        ap (λ (o : Option ErrorKind). nowhere (unless o change) >>= schema_applied >>= rows_changed change) (page_unrefused p t passing is ready.page)
            ∙ ap (λ b. (if b then schema_changed change else Ok (schema_untouched d)) >>= rows_changed change) changes
            ∙ ap (λ (r : Result SchemaInHand Refusal). r >>= rows_changed change) schema_ran
            ∙ rows_ran takes gives p t passing is can schema columns streams named (beside p t is exact order) enough are.kept fits,
        record {
          columns = columns;
          names = end_new takes gives p t passing is can schema columns streams named (beside p t is exact order) enough are.kept fits;
          anew = end_anew takes gives p t passing is can schema columns streams named (beside p t is exact order) enough are.kept fits;
          stay = each_stays after (λ name plain is_named new not_anew.
              let absent = without_record takes gives p t passing is can schema columns streams named (beside p t is exact order) enough are.kept fits name plain is_named not_anew in
              stays_new takes gives p t passing is can schema columns streams named (beside p t is exact order) enough are.kept fits name plain is_named not_anew
              (λ n some. among_any name plain new absent n some));
          gone = are_gone schema.tables (names_beside p.old.database p.new.database) gone;
        },
        (λ good reads. end_good takes gives p t passing is can schema columns streams named (beside p t is exact order) enough are.kept fits good
            (λ name. new_told p t is can exact order good reads name 0)
            (stays good cells (come_good p t is can exact order good reads adds) (columns_good p t is can exact order good reads (told_names p.new)) (held_then p t is can exact order good reads))),
        (λ n. counts_end takes gives p t passing is can schema columns streams named (beside p t is exact order) enough are.kept fits n
            (λ m new there. gone_at schema.tables gone m new there) (λ c m s there. yes_is_no (changes_schema t) changes c) (tables_sorted p.old exact.order)
            (changed_total schema changes n (exactly (left_exactly p t is exact order) n))),
      )

  -- WHERE THE SCHEMA IS UNTOUCHED

  columns_kept : (names : List (List ℕ)) → AllByRecursion (λ name. has_table name d ≡ true) names → AllByRecursion (λ name. shapes_of (columns_in_table p.old name) ≡ shapes_of (columns_in_table p.new name)) names
      → AllByRecursion (λ name. HasNewColumns p.old p.new name (table_in_hand d [] name)) names
  columns_kept [] there same = tt
  columns_kept (n ∷ ns) there same = (kept_by p (tables_begun change (schema_untouched d)) refl n (has_table n d) there.0 refl same.0, columns_kept ns there.1 same.1)

  ran_untouched : changes_schema t ≡ false → Ran
  ran_untouched unchanged =
      let can = can_have p t passing is exact order ready in
      let same = same_columns p t passing is exact order ready unchanged in
      let none = none_gone p t passing is exact order ready unchanged in
      let schema = schema_untouched d in
      let columns = columns_kept (told_names p.new) same.there same.columns in
      let named : AreNamed p [] [] = record { sorted = tt; each = tt } in
      let enough : (n : ℕ) → cells n + beside p t is exact order n ≤ room d.pool.places n = λ n. omega (arith, all_parts p t is exact order n) in
      let texts : (n : ℕ) → 0 < cells n + beside p t is exact order n → text_at d.pool.places n ≡ text_at d.pool.places n = λ n some. refl in
      let fits : length d.pool.places + texts_to_come p t.tables ≤ 16777215 = omega (arith, ready.room) in
      let after = end takes gives p t passing is can schema columns same.streams named (beside p t is exact order) enough texts fits in (
        [],
        after,
        ap (λ (o : Option ErrorKind). nowhere (unless o change) >>= schema_applied >>= rows_changed change) (page_unrefused p t passing is ready.page)
            ∙ ap (λ b. (if b then schema_changed change else Ok schema) >>= rows_changed change) unchanged
            ∙ rows_ran takes gives p t passing is can schema columns same.streams named (beside p t is exact order) enough texts fits,
        record {
          columns = columns;
          names = end_new takes gives p t passing is can schema columns same.streams named (beside p t is exact order) enough texts fits;
          anew = end_anew takes gives p t passing is can schema columns same.streams named (beside p t is exact order) enough texts fits;
          stay = each_stays after (λ name plain is_named new not_anew.
              let absent = without_record takes gives p t passing is can schema columns same.streams named (beside p t is exact order) enough texts fits name plain is_named not_anew in
              stays_new takes gives p t passing is can schema columns same.streams named (beside p t is exact order) enough texts fits name plain is_named not_anew
              (λ n some. among_any name plain new absent n some));
          gone = subst (λ (names : List (List ℕ)). AllByRecursion (λ name. is_gone (table_in_hand d [] name).standing ≡ true) names) (sym none) tt;
        },
        (λ good reads. end_good takes gives p t passing is can schema columns same.streams named (beside p t is exact order) enough texts fits good
            (λ name. new_told p t is can exact order good reads name 0) (held_at_first p t is can exact order good reads none)),
        (λ n. counts_end takes gives p t passing is can schema columns same.streams named (beside p t is exact order) enough texts fits n
            (λ m new there. yes_is_no false (ap (list_any (eq_by_cmp list_cmp m)) (sym none) ∙ among_gone m there new) refl) (λ c m s there. rw there refl) (tables_sorted p.old exact.order)
            (untouched_total unchanged none n)),
      )

  pub whole_run : Ran
  whole_run = by_test (changes_schema t) ran_changed ran_untouched

-- THE TEXTS THAT ARE LEFT

all_read_by : (page : CodePage) (places : List Place) → ((i : ℕ) → 0 < count_of (slice_get places i) → reads_back page (option_map_or (λ (p : Place). p.text) (slice_get places i) []) ≡ true)
    → list_all (λ (p : Place). (p.count == 0) || reads_back page p.text) places ≡ true
all_read_by page [] h = refl
all_read_by page (q ∷ qs) h = elim (cases_lt 0 q.count) [
  | inl some ↦ by_test (q.count == 0) (λ b. rw b (all_read_by page qs (λ i. h (suc i)))) (λ b. rw (b, h 0 some) (all_read_by page qs (λ i. h (suc i))))
  | inr none ↦ let zero_count : q.count ≡ 0 = omega (arith, none) in rw zero_count (all_read_by page qs (λ i. h (suc i)))
]

none_lacking : (page : CodePage) (places : List Place) → list_any (is_lacking page) places ≡ false → (i : ℕ) → 0 < count_of (slice_get places i)
    → reads_back page (option_map_or (λ (p : Place). p.text) (slice_get places i) []) ≡ true
none_lacking page [] h i some = absurd (omega (arith, some))
none_lacking page (q ∷ qs) h zero some =
    let parts = neither (is_lacking page q) (list_any (is_lacking page) qs) h in
    not_false (reads_back page q.text) (rw (lt-ltb 0 q.count some) at parts.0)
none_lacking page (q ∷ qs) h (suc i) some = none_lacking page qs (neither (is_lacking page q) (list_any (is_lacking page) qs) h).1 i some

module _ (p : Pair) (t : TransformDef) (passing : ErrorConditions) (is : made p ≡ Ok t) (ready : CanTakeTransform p t passing) where
  new_page_is : t.pool.page ≡ p.new.database.pool.page
  new_page_is = let s = made_by p.new_page p.new (told_tables p.old p.new) t (first_refusal (reasons p)) is in ap (λ (u : TransformDef). u.pool.page) (sym s.2)

  -- each place in use of the new package has a text that reads back
  new_reads : (n : ℕ) → 0 < room p.new.database.pool.places n → reads_back p.new.database.pool.page (text_at p.new.database.pool.places n) ≡ true
  new_reads zero some = absurd (omega (arith, some))
  new_reads (suc i) some = let e : suc i - 1 ≡ i = omega arith in rw e (none_lacking p.new.database.pool.page p.new.database.pool.places (no_lack p t is).1 i some)

  new_page_reads : (after : TablesInHand) → EndsGood p after → list_all (λ (q : Place). (q.count == 0) || reads_back p.new.database.pool.page q.text) after.pool.places ≡ true
  new_page_reads after ends = all_read_by p.new.database.pool.page after.pool.places
      (λ i some. let e : suc i - 1 ≡ i = omega arith in rw e at (ends (reads_back p.new.database.pool.page) new_reads (suc i) some))

  abbrev page : CodePage
  page = page_after p.old.database.pool.page t

  pub all_texts_read : (after : TablesInHand) → EndsGood p after → list_all (λ (q : Place). (q.count == 0) || reads_back page q.text) after.pool.places ≡ true
  all_texts_read after ends = by_test (p.new_page == 0)
      (λ b.
      let old_zero : p.old_page ≡ 0 = eqb-true p.old_page 0 (not_false (p.old_page == 0) (rw b at (no_lack p t is).0)) in
      let is_old : page ≡ Utf8 = ap (λ (n : ℕ). if n == 0 then p.old.database.pool.page else t.pool.page) (page_is p t is) ∙ ap (λ c. if c then p.old.database.pool.page else t.pool.page) b ∙ ready.neutral old_zero in
      subst (λ (g : CodePage). list_all (λ (q : Place). (q.count == 0) || reads_back g q.text) after.pool.places ≡ true) (sym is_old) (all_read after.pool.places))
      (λ b.
      let is_new : page ≡ p.new.database.pool.page = ap (λ (n : ℕ). if n == 0 then p.old.database.pool.page else t.pool.page) (page_is p t is) ∙ ap (λ c. if c then p.old.database.pool.page else t.pool.page) b ∙ new_page_is in
      subst (λ (g : CodePage). list_all (λ (q : Place). (q.count == 0) || reads_back g q.text) after.pool.places ≡ true) (sym is_new) (new_page_reads after ends))
