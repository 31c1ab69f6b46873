-- The keys of a table's records are those of rows that the old package has, or the new one.
use Rattle.std.proofs.Common.{◌≡◌, ℕ, ◌-◌, true, false, ◌&&◌, List, [], ◌∷◌, ◌++◌, length, map, filter, zip, Option, Some, None, is_some, refl, sym, ap, subst, ◌∙◌, ◌⊎◌, inl, inr}
use Rattle.std.specs.Prelude.{Ok, if◌then◌else◌, nat_lt, option_and_then, ◌==◌}
use Rattle.std.specs.Cmp.{tied_itself}
use Rattle.std.specs.FinMap.{find}
use Rattle.std.specs.FinMap.Entries.{find-put}
use Rattle.std.specs.List.{AllByRecursion, cons_option}
use Rattle.std.specs.Ordering.{eq_by_cmp}
use Rattle.msi_base.proofs.BoolLemmas.{by_test}
use Rattle.msi_table_cells.specs.CellValues.{row_values}
use Rattle.msi_table_cells.specs.KeyOrder.{key_of}
use Rattle.msi_table_cells.specs.declared.cell.ValueRef.{ValueRef}
use Rattle.msi_table_values.specs.declared.value.Value.{Value}
use Rattle.msi_table_values.specs.Columns.{ColumnDef}
use Rattle.msi_database_schema.specs.System.{is_schema_table}
use Rattle.msi_database_changes.specs.Database.{has_table}
use Rattle.msi_database_storage.specs.Kept.{Kept}
use Rattle.msi_transform_records.specs.declared.action.Action.{Action}
use Rattle.msi_transform_records.specs.declared.records.Record.{Record}
use Rattle.msi_transform_records.specs.declared.shape.Shape.{Shape}
use Rattle.msi_transform_records.specs.Actions.{told}
use Rattle.msi_transform_records.specs.Records.{records_in}
use Rattle.msi_transform.specs.Transforms.{TransformDef, record_key, records_for, shapes_of}
use Rattle.msi_transform.specs.declared.conditions.ErrorConditions.{ErrorConditions}
use Rattle.msi_transform_rows.specs.KeyOfRows.{key_cmp}
use Rattle.msi_transform_rows.specs.RowChanges.{TableChange}
use Rattle.msi_transform_schema.specs.SchemaApplying.{system_rows}
use Rattle.msi_transform_making.specs.Making.{Pair, ToldRecord, ToldRow, ToldRows, ToldTable, addition, by_keys, can_be_marked, change_of_row, changes, changing, columns_before, columns_in_table, differences, differing, first_told, has_bit_for, is_replaced, made, or_first_told, records_of_table, removal, told_row, told_rows, told_table, told_tables, values_in_table}
use Rattle.msi_transform_laws.specs.CarriedOut.{IsTellable, is_of_key}
use Rattle.msi_transform_laws.specs.RecordsRead.{action_and_values, as_values, values_read}
use Rattle.msi_transform_laws.specs.RowsApplied.{IsInTransform, SaySame}
use Rattle.msi_transform_laws.specs.StreamsBrought.{HasItsStream}
use Rattle.msi_transform_laws.specs.TableApplied.{CanHaveRecords, table_change}
use Rattle.msi_transform_laws.proofs.BroughtStreamsLemmas.{made_streams_are_brought}
use Rattle.msi_transform_laws.proofs.CarriedOutLemmas.{keys_total}
use Rattle.msi_transform_laws.proofs.MadeRecordsLemmas.{made_records_are_read}
use Rattle.msi_transform_laws.proofs.NewTablesLemmas.{all_joined}
use Rattle.msi_transform_laws.proofs.RecordValuesLemmas.{key_seen, seen_beside}
use Rattle.msi_transform_laws.proofs.RecordsInTransformLemmas.{records_in_transform}
use Rattle.msi_transform_laws.proofs.SchemaAppliedLemmas.{same_first}
use Rattle.msi_transform_laws.proofs.SchemaListsLemmas.{all_passing}
use Rattle.msi_transform_laws.proofs.TableAppliedLemmas.{IsNew, Read, read_of, tables_new}
use Rattle.msi_transform_laws.proofs.TableRecordsLemmas.{each_by_keys}

-- RECORDS WHOSE KEYS ARE THOSE OF ROWS

module _ (Q : List Value → Type 0) where
  abbrev pub OfKey : List Value × ToldRow → Type 0
  OfKey e = Q e.0

  abbrev pub Tells : ToldRecord → Type 0
  Tells r = Q r.key

  all_mapped : (f : List Value × ToldRow → ToldRecord) → ((e : List Value × ToldRow) → Q e.0 → Q (f e).key) → (es : ToldRows) → AllByRecursion OfKey es → AllByRecursion Tells (map f es)
  all_mapped f g [] h = tt
  all_mapped f g (e ∷ es) h = (g e h.0, all_mapped f g es h.1)

  one_change : (columns : List ColumnDef) (old : Option ToldRow) (e : List Value × ToldRow) → Q e.0
      → AllByRecursion Tells (cons_option (option_and_then (λ other. let marked = differing other e.1 in if can_be_marked marked && nat_lt 0 (length marked) then Some (changing columns marked e) else None) old) [])
  one_change columns None e h = tt
  one_change columns (Some other) e h =
      elim (can_be_marked (differing other e.1) && nat_lt 0 (length (differing other e.1))) as (λ b. AllByRecursion Tells (cons_option (if b then Some (changing columns (differing other e.1) e) else None) [])) [
        | true ↦ (h, tt)
        | false ↦ tt
      ]

  added_option : (o : Option ToldRecord) (rs : List ToldRecord) → AllByRecursion Tells (cons_option o []) → AllByRecursion Tells rs → AllByRecursion Tells (cons_option o rs)
  added_option None rs h g = g
  added_option (Some r) rs h g = (h.0, g)

  changes_tell : (columns : List ColumnDef) (old es : ToldRows) → AllByRecursion OfKey es → AllByRecursion Tells (changes columns old es)
  changes_tell columns old [] h = tt
  changes_tell columns old (e ∷ es) h = added_option (change_of_row columns old e) (changes columns old es) (one_change columns (find key_cmp e.0 old) e h.0) (changes_tell columns old es h.1)

  differences_tell : (columns : List ColumnDef) (old news : ToldRows) → AllByRecursion OfKey old → AllByRecursion OfKey news → AllByRecursion Tells (differences columns old news)
  differences_tell columns old news h g =
      all_joined Tells (map (λ e. removal e.0) (filter (is_replaced news) old) ++ changes columns old news) (map addition (filter (is_replaced old) news))
      (all_joined Tells (map (λ e. removal e.0) (filter (is_replaced news) old)) (changes columns old news)
      (all_mapped (λ e. removal e.0) (λ e q. q) (filter (is_replaced news) old) (all_passing OfKey (is_replaced news) old h)) (changes_tell columns old news g))
      (all_mapped addition (λ e q. q) (filter (is_replaced old) news) (all_passing OfKey (is_replaced old) news g))

  first_tells : (columns : List ColumnDef) (n : ℕ) (es : ToldRows) → AllByRecursion OfKey es → AllByRecursion Tells (first_told columns n es)
  first_tells columns n [] h = tt
  first_tells columns n (e ∷ es) h = by_test (has_bit_for n) (λ t. rw t (h.0, tt)) (λ t. rw t (h.0, (h.0, tt)))

  or_first_tells : (columns : List ColumnDef) (before added : ℕ) (old news : ToldRows) → AllByRecursion OfKey old → AllByRecursion OfKey news
      → AllByRecursion Tells (or_first_told columns before added old (differences columns old news))
  or_first_tells columns before added old news h g = by_test ((length (differences columns old news) == 0) && nat_lt 0 added)
      (λ t. rw t (first_tells columns before old h))
      (λ t. rw t (differences_tell columns old news h g))

-- THE KEYS OF ROWS

found_by_keys : (q : List Value) (es : ToldRows) → find key_cmp q (by_keys es) ≡ find key_cmp q es
found_by_keys q [] = refl
found_by_keys q (e ∷ es) = find-put key_cmp keys_total q e.0 e.1 (by_keys es) ∙ by_test (eq_by_cmp key_cmp q e.0) (λ t. rw t refl) (λ t. rw t (found_by_keys q es))

-- a row has its key among those of its table, also where columns are added
module _ (k : Kept) (table : List ℕ) (added : ℕ) where
  abbrev columns : List ColumnDef
  columns = columns_in_table k table

  abbrev key_in : List ValueRef → List Value
  key_in row = key_of columns (row_values k.database.pool.places row)

  abbrev pub IsThere : List Value → Type 0
  IsThere key = is_some (find key_cmp key (told_rows k table added)) ≡ true

  abbrev AreIn : List (List ValueRef) → List (List ValueRef) → Type 0
  AreIn all rows = AllByRecursion (λ (row : List ValueRef). is_some (find key_cmp (key_in row) (map (told_row k table columns added) (map (row_values k.database.pool.places) all))) ≡ true) rows

  one_more : (row : List ValueRef) (all rows : List (List ValueRef)) → AreIn all rows → AreIn (row ∷ all) rows
  one_more row all [] h = tt
  one_more row all (r ∷ rs) h = (by_test (eq_by_cmp key_cmp (key_in r) (key_in row)) (λ t. rw t refl) (λ t. rw t h.0), one_more row all rs h.1)

  all_in : (rows : List (List ValueRef)) → AreIn rows rows
  all_in [] = tt
  all_in (row ∷ rows) = (rw (tied_itself keys_total (key_in row)) refl, one_more row rows rows (all_in rows))

  there_by : (rows : List (List ValueRef)) → AreIn (system_rows k.database table) rows → AllByRecursion (λ (row : List ValueRef). IsThere (key_in row)) rows
  there_by [] h = tt
  there_by (row ∷ rows) h =
      (ap (λ (o : Option ToldRow). is_some o) (found_by_keys (key_in row) (map (told_row k table columns added) (values_in_table k table))) ∙ h.0, there_by rows h.1)

  pub rows_there : AllByRecursion (λ (row : List ValueRef). IsThere (key_in row)) (system_rows k.database table)
  rows_there = there_by (system_rows k.database table) (all_in (system_rows k.database table))

module _ (k : Kept) (table : List ℕ) (added : ℕ) where
  abbrev HasKey : List Value × ToldRow → Type 0
  HasKey e = IsThere k table 0 e.0

  told_keys : (rows : List (List ValueRef)) → AllByRecursion (λ (row : List ValueRef). IsThere k table 0 (key_in k table 0 row)) rows
      → AllByRecursion HasKey (map (told_row k table (columns_in_table k table) added) (map (row_values k.database.pool.places) rows))
  told_keys [] h = tt
  told_keys (row ∷ rows) h = (h.0, told_keys rows h.1)

  told_there : AllByRecursion HasKey (told_rows k table added)
  told_there = each_by_keys HasKey (map (told_row k table (columns_in_table k table) added) (values_in_table k table)) (told_keys (system_rows k.database table) (rows_there k table 0))

-- THE KEYS OF A TABLE'S RECORDS

key_of_stored : (t : TransformDef) (shapes : List Shape) (q : Record) (r : ToldRecord) → as_values t q ≡ action_and_values r
    → map (λ e. e.1) (filter is_of_key (zip (told shapes r.action) r.values)) ≡ r.key → record_key t shapes q ≡ r.key
key_of_stored t shapes q r says key =
    key_seen t (zip (told shapes q.action) q.cells)
    ∙ ap (λ (l : List ((ℕ × Shape) × Value)). map (λ e. e.1) (filter is_of_key l)) (seen_beside t (told shapes q.action) q.cells)
    ∙ ap (λ (a : Action × List Value). map (λ e. e.1) (filter is_of_key (zip (told shapes a.0) a.1))) says ∙ key

stored_keys : (Q : List Value → Type 0) (change : TableChange) (rs : List ToldRecord) (qs : List Record) → SaySame change.by rs qs → AllByRecursion (IsInTransform change) rs → AllByRecursion (Tells Q) rs
    → AllByRecursion (λ (q : Record). Q (record_key change.by (shapes_of change.columns) q)) qs
stored_keys Q change [] [] says are keys = tt
stored_keys Q change [] (q ∷ qs) says are keys = absurd cc
stored_keys Q change (r ∷ rs) [] says are keys = absurd cc
stored_keys Q change (r ∷ rs) (q ∷ qs) says are keys =
    let first = same_first change.by r rs q qs says in
    (subst Q (sym (key_of_stored change.by (shapes_of change.columns) q r first.0 are.0.key)) keys.0, stored_keys Q change rs qs first.1 are.1 keys.1)

module _ (p : Pair) where
  abbrev pub IsOfNew : List ℕ → List Value → Type 0
  IsOfNew table key = is_some (find key_cmp key (told_rows p.new table 0)) ≡ true

  abbrev pub IsOfOld : List ℕ → List Value → Type 0
  IsOfOld table key = (has_table table p.old.database ≡ true) × (is_some (find key_cmp key (told_rows p.old table 0)) ≡ true)

  abbrev pub IsOfEither : List ℕ → List Value → Type 0
  IsOfEither table key = IsOfNew table key ⊎ IsOfOld table key

  told_as : {X : Type 0} (P Q : X → Type 0) → ((x : X) → P x → Q x) → (xs : List X) → AllByRecursion P xs → AllByRecursion Q xs
  told_as P Q f [] h = tt
  told_as P Q f (x ∷ xs) h = (f x h.0, told_as P Q f xs h.1)

  new_keys : (name : List ℕ) → AllByRecursion (OfKey (IsOfEither name)) (told_rows p.new name 0)
  new_keys name = told_as (λ (e : List Value × ToldRow). IsOfNew name e.0) (OfKey (IsOfEither name)) (λ e h. inl h) (told_rows p.new name 0) (told_there p.new name 0)

  old_keys : (name : List ℕ) (added : ℕ) → has_table name p.old.database ≡ true → AllByRecursion (OfKey (IsOfEither name)) (told_rows p.old name added)
  old_keys name added there = told_as (λ (e : List Value × ToldRow). is_some (find key_cmp e.0 (told_rows p.old name 0)) ≡ true) (OfKey (IsOfEither name)) (λ e h. inr (there, h)) (told_rows p.old name added)
      (told_there p.old name added)

  table_keys : (name : List ℕ) → AllByRecursion (Tells (IsOfEither name)) (records_of_table p.old p.new name)
  table_keys name =
      let columns = columns_in_table p.new name in
      let before = columns_before p.old.database name in
      by_test (has_table name p.old.database)
      (λ t. rw t (or_first_tells (IsOfEither name) columns before (length columns - before) (told_rows p.old name (length columns - before)) (told_rows p.new name 0)
      (old_keys name (length columns - before) t) (new_keys name)))
      (λ t. rw t (all_mapped (IsOfEither name) addition (λ e q. q) (told_rows p.new name 0) (new_keys name)))

  module _ (t : TransformDef) (passing : ErrorConditions) where
    -- a table's records in the transform, each of a key of one of its rows
    abbrev pub KeysOf : List ℕ → Type 0
    KeysOf name = (bytes : List ℕ) × (records_for name t ≡ Some bytes) × (stored : List Record) × (records_in (shapes_of (columns_in_table p.new name)) t.pool bytes ≡ Some stored)
        × AllByRecursion (λ (q : Record). IsOfEither name (record_key t (shapes_of (columns_in_table p.new name)) q)) stored

    keys_read : (name : List ℕ) → IsTellable p.old p.new name → AllByRecursion (HasItsStream t name) (records_of_table p.old p.new name) → Read t (told_table p.old p.new name) → KeysOf name
    keys_read name tellable streams read =
        let (bytes, at, stored, records, says) = read in
        let change = table_change name (columns_in_table p.new name) t passing in
        (bytes, at, stored, records, stored_keys (IsOfEither name) change (records_of_table p.old p.new name) stored says (records_in_transform p.old p.new name change refl tellable streams) (table_keys name))

    all_keys : (tables : List ToldTable) → AllByRecursion (IsNew p) tables → AllByRecursion (λ (table : ToldTable). values_read t table ≡ Some (map action_and_values table.records)) tables
        → AllByRecursion (λ (table : ToldTable). AllByRecursion (HasItsStream t table.name) table.records) tables
        → AllByRecursion (λ (table : ToldTable). is_schema_table table.name ≡ false → KeysOf table.name) tables
    all_keys [] new read streams = tt
    all_keys (table ∷ tables) new read streams = (
      (λ s. let is = new.0 s in
          subst (λ (x : ToldTable). AllByRecursion (HasItsStream t x.name) x.records → Read t x → KeysOf x.name) (sym is.0)
          (λ there read_too. keys_read table.name is.1 there read_too) streams.0 (read_of t table (records_for table.name t) refl read.0)),
      all_keys tables new.1 read.1 streams.1,
    )

    -- so it is of each table of a transform that is made
    pub made_keys : made p ≡ Ok t → CanHaveRecords p → AllByRecursion (λ (table : ToldTable). is_schema_table table.name ≡ false → KeysOf table.name) (told_tables p.old p.new)
    made_keys is can = all_keys (told_tables p.old p.new) (tables_new p can) (made_records_are_read p t is can.apart can.spellable) (made_streams_are_brought p t is can.tellable)
