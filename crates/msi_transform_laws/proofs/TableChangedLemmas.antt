-- A table changed by a transform that is made: it isn't refused, and its records are applied.
use Rattle.std.proofs.Common.{◌≡◌, ℕ, Bool, true, false, not, ◌&&◌, ◌||◌, List, [], ◌∷◌, ◌++◌, length, map, filter, refl, sym, ap, ◌∙◌, append-nil}
use Rattle.std.specs.Prelude.{Option, None, Result, Ok}
use Rattle.std.specs.FinMap.Entries.{is_some-find}
use Rattle.std.specs.Cmp.{tied_itself}
use Rattle.std.specs.List.{AllByRecursion, list_any}
use Rattle.std.specs.Ordering.{eq_by_cmp}
use Rattle.std.proofs.lemmas.Bool.{and_parts}
use Rattle.std.proofs.lemmas.List.{length-map}
use Rattle.msi_base.specs.Lists.{has_pair, list_cmp}
use Rattle.msi_base.specs.declared.errors.ErrorKind.{ErrorKind}
use Rattle.msi_base.specs.declared.errors.ErrorKind.TheVariants.{InvalidData, NotFound}
use Rattle.msi_base.specs.Refusals.{first_refusal, unless}
use Rattle.msi_base.proofs.BoolLemmas.{by_test, yes_is_no}
use Rattle.msi_base.proofs.ListLemmas.{none_passes}
use Rattle.msi_pool.specs.Pool.{Place}
use Rattle.msi_pool.specs.FirstFitLaws.{TakenPlacesHoldTheirText, GivenBackTakesOne}
use Rattle.msi_table_cells.specs.declared.cell.ValueRef.{ValueRef}
use Rattle.msi_table_cells.specs.CellValues.{row_values, value_of_cell}
use Rattle.msi_table_cells.specs.KeyOrder.{key_of, same_key}
use Rattle.msi_table_values.specs.declared.value.Value.{Value}
use Rattle.msi_table_values.specs.Columns.{ColumnDef}
use Rattle.msi_database_schema.specs.Keys.{is_table_name}
use Rattle.msi_database_schema.specs.System.{columns_name, is_schema_table, tables_name}
use Rattle.msi_database_changes.specs.Database.{Database, has_table}
use Rattle.msi_database_changes.specs.KeySets.{keys_of_rows}
use Rattle.msi_database_storage.specs.Kept.{Kept}
use Rattle.msi_transform_records.specs.declared.shape.Shape.{Shape}
use Rattle.msi_transform.specs.Transforms.{TransformDef, shapes_of}
use Rattle.msi_transform_rows.specs.RowChanges.{RowsInHand, record_applied}
use Rattle.msi_transform_rows.specs.RecordRefusals.{Refusal, at_record, ◌>>=◌}
use Rattle.msi_transform_rows.specs.TableRecords.{all_applied}
use Rattle.msi_transform_schema.specs.SchemaApplying.{have_own_keys, system_rows}
use Rattle.msi_transform_schema.specs.SchemaChanges.{columns_in_hand, columns_of_package, is_gone, is_name_to_list, rows_of_package, table_in_hand}
use Rattle.msi_transform_schema.specs.declared.schema.Standing.{Standing}
use Rattle.msi_transform_schema.specs.declared.schema.Standing.TheVariants as stands
use Rattle.msi_transform_applying.specs.Applying.{change_of, change_with, is_broken, rows_in_hand, table_refusals, with_anew}
use Rattle.msi_transform_making.specs.Making.{Pair, ToldTable, columns_in_table, is_odd_table, is_told, is_unfit, told_names, told_table, told_tables}
use Rattle.msi_transform_laws.specs.CarriedOut.{IsTellable, is_key_of_streams}
use Rattle.msi_transform_laws.specs.RowsBegun.{StandsAs}
use Rattle.msi_transform_laws.specs.TableApplied.{GivesNewRows}
use Rattle.msi_transform_laws.specs.TableChanged.{MadeTablesAreChanged, TableIsChanged}
use Rattle.msi_transform_laws.proofs.FitPackagesLemmas.{both_fit}
use Rattle.msi_transform_laws.proofs.ListedTablesLemmas.{exact_names}
use Rattle.msi_transform_laws.proofs.MadeRecordsLemmas.{lists}
use Rattle.msi_transform_laws.proofs.RowsBegunLemmas.{has_key, key_beside, key_shapes, none_of_key, old_rows_are_in_hand}
use Rattle.msi_transform_laws.proofs.StoredRecordsLemmas.{names_total}
use Rattle.msi_transform_laws.proofs.TableAppliedLemmas.{is_key_shape, made_records_give_new_rows, plain_shapes}

neither : (a b : Bool) → (a || b) ≡ false → (a ≡ false) × (b ≡ false)
neither true b h = yes_is_no true refl h
neither false b h = (refl, h)

not_false : (b : Bool) → not b ≡ false → b ≡ true
not_false true h = refl
not_false false h = sym h

-- NAMES OF TABLES

longer_among : (name x : List ℕ) (xs : List (List ℕ)) → list_any (eq_by_cmp list_cmp name) xs ≡ true → list_any (eq_by_cmp list_cmp name) (x ∷ xs) ≡ true
longer_among name x xs h = by_test (eq_by_cmp list_cmp name x) (λ t. rw t refl) (λ t. rw t h)

all_as : {X : Type 0} (P Q : X → Type 0) → ((x : X) → P x → Q x) → (xs : List X) → AllByRecursion P xs → AllByRecursion Q xs
all_as P Q f [] h = tt
all_as P Q f (x ∷ xs) h = (f x h.0, all_as P Q f xs h.1)

all_passing : {X : Type 0} (P : X → Type 0) (q : X → Bool) (xs : List X) → AllByRecursion P xs → AllByRecursion P (filter q xs)
all_passing P q [] h = tt
all_passing P q (x ∷ xs) h = by_test (q x) (λ t. rw t (h.0, all_passing P q xs h.1)) (λ t. rw t (all_passing P q xs h.1))

pub each_among : (xs : List (List ℕ)) → AllByRecursion (λ name. list_any (eq_by_cmp list_cmp name) xs ≡ true) xs
each_among [] = tt
each_among (x ∷ xs) = (
  rw (tied_itself names_total x) refl,
  all_as (λ name. list_any (eq_by_cmp list_cmp name) xs ≡ true) (λ name. list_any (eq_by_cmp list_cmp name) (x ∷ xs) ≡ true) (λ name h. longer_among name x xs h) xs (each_among xs),
)

pub all_there : (k : Kept) → AllByRecursion (λ name. has_table name k.database ≡ true) (told_names k)
all_there k =
    let names = map (λ t. t.0) k.database.tables in
    all_passing (λ name. has_table name k.database ≡ true) (λ name. not (is_schema_table name)) names
    (all_as (λ name. list_any (eq_by_cmp list_cmp name) names ≡ true) (λ name. has_table name k.database ≡ true) (λ name h. is_some-find list_cmp name k.database.tables ∙ h) names (each_among names))

-- what fails for all names that pass a test fails for one of them
fails_at : (q r : List ℕ → Bool) (name : List ℕ) (xs : List (List ℕ)) → list_any q (filter r xs) ≡ false → list_any (eq_by_cmp list_cmp name) xs ≡ true → r name ≡ true → q name ≡ false
fails_at q r name [] none among passes = yes_is_no false among refl
fails_at q r name (x ∷ xs) none among passes = by_test (eq_by_cmp list_cmp name x)
    (λ t. let same : name ≡ x = exact_names name x t in
    let here : r x ≡ true = ap r (sym same) ∙ passes in
    let fails : (q x || list_any q (filter r xs)) ≡ false = rw here at none in
    ap q same ∙ (neither (q x) (list_any q (filter r xs)) fails).0)
    (λ t. by_test (r x)
    (λ u. let fails : (q x || list_any q (filter r xs)) ≡ false = rw u at none in fails_at q r name xs (neither (q x) (list_any q (filter r xs)) fails).1 (rw t at among) passes)
    (λ u. fails_at q r name xs (rw u at none) (rw t at among) passes))

pub fit_at : (k : Kept) (name : List ℕ) → is_unfit k ≡ false → is_schema_table name ≡ false → has_table name k.database ≡ true → is_odd_table k name ≡ false
fit_at k name fit s there =
    let names = map (λ t. t.0) k.database.tables in
    let plain : not (is_schema_table name) ≡ true = ap not s in
    fails_at (is_odd_table k) (λ name. not (is_schema_table name)) name names fit (sym (is_some-find list_cmp name k.database.tables) ∙ there) plain

-- A TABLE ISN'T REFUSED

pub broken_parts : (keyed streams own : Bool) → (not keyed || streams || not own) ≡ false → (keyed ≡ true) × (streams ≡ false) × (own ≡ true)
broken_parts true true own h = yes_is_no true refl h
broken_parts true false true h = (refl, refl, refl)
broken_parts true false false h = yes_is_no true refl h
broken_parts false streams own h = yes_is_no true refl h

module _ (k : Kept) (name : List ℕ) (odd : is_odd_table k name ≡ false) where
  parts : (not (is_name_to_list name) ≡ false) × ((has_table name k.database && is_broken k.database (columns_in_table k name) (system_rows k.database name)) ≡ false)
  parts = neither (not (is_name_to_list name)) (has_table name k.database && is_broken k.database (columns_in_table k name) (system_rows k.database name)) odd

  pub named : is_table_name name ≡ true
  named = (and_parts (is_table_name name) (not (is_schema_table name)) (not_false (is_name_to_list name) parts.0)).0

  pub whole : has_table name k.database ≡ true → is_broken k.database (columns_in_table k name) (system_rows k.database name) ≡ false
  whole there = rw there at parts.1

keys_beside : (places : List Place) (columns added : List ColumnDef) (rows : List (List ValueRef)) → AllByRecursion (λ (row : List ValueRef). length row ≡ length columns) rows → has_key added ≡ false
    → keys_of_rows places (columns ++ added) rows ≡ keys_of_rows places columns rows
keys_beside places columns added [] whole plain = refl
keys_beside places columns added (row ∷ rows) whole plain =
    let vs = row_values places row in
    let long : length vs ≡ length columns = length-map row (value_of_cell places) ∙ whole.0 in
    let first : key_of (columns ++ added) vs ≡ key_of columns vs = ap (key_of (columns ++ added)) (sym (append-nil vs)) ∙ key_beside columns added vs [] long plain in
    λ i. first i ∷ keys_beside places columns added rows whole.1 plain i

module _ (p : Pair) (name : List ℕ) (added : List ColumnDef) (tellable : IsTellable p.old p.new name) (there : has_table name p.new.database ≡ true)
    (odd : is_odd_table p.new name ≡ false) (old_odd : has_table name p.old.database ≡ true → is_odd_table p.old name ≡ false) where
  abbrev d : Database
  d = p.old.database

  abbrev after : List ColumnDef
  after = columns_in_table p.new name

  sound_by : (keyed streams own : Bool) → keyed ≡ true → streams ≡ false → own ≡ true → (not keyed || streams || not own) ≡ false
  sound_by keyed streams own k s o = rw (k, s, o) refl

  new_parts : (has_key after ≡ true) × (list_any is_key_of_streams after ≡ false) × (have_own_keys p.new.database.pool.places after (system_rows p.new.database name) ≡ true)
  new_parts = broken_parts (has_key after) (list_any is_key_of_streams after) (have_own_keys p.new.database.pool.places after (system_rows p.new.database name)) (whole p.new name odd there)

  unbroken : (columns : List ColumnDef) (rows : List (List ValueRef)) → shapes_of columns ≡ shapes_of after → have_own_keys d.pool.places columns rows ≡ true → is_broken d columns rows ≡ false
  unbroken columns rows same own = sound_by (has_key columns) (list_any is_key_of_streams columns) (have_own_keys d.pool.places columns rows)
      (key_shapes columns ∙ ap (λ (l : List Shape). list_any (λ (s : Shape). s.is_key) l) same ∙ sym (key_shapes after) ∙ new_parts.0)
      (plain_shapes columns ∙ ap (list_any is_key_shape) same ∙ sym (plain_shapes after) ∙ new_parts.1) own

  kept_unbroken : has_table name d ≡ true → shapes_of (columns_in_table p.old name ++ added) ≡ shapes_of after → is_broken d (columns_in_table p.old name ++ added) (system_rows d name) ≡ false
  kept_unbroken has same =
      let kept = tellable.before has in
      let columns = columns_in_table p.old name in
      let plain = none_of_key columns added after same kept.1.plain in
      let own = (broken_parts (has_key columns) (list_any is_key_of_streams columns) (have_own_keys d.pool.places columns (system_rows d name)) (whole p.old name (old_odd has) has)).2 in
      unbroken (columns ++ added) (system_rows d name) same
      (ap (λ (keys : List (List Value)). not (has_pair same_key keys)) (keys_beside d.pool.places columns added (system_rows d name) kept.0 plain) ∙ own)

  stands_fit : (b : Bool) → has_table name d ≡ b → (standing : Standing) → StandsAs b standing → shapes_of (columns_of_package d name standing ++ added) ≡ shapes_of after
      → (is_gone standing ≡ false) × (is_broken d (columns_of_package d name standing ++ added) (rows_of_package d name standing) ≡ false)
  stands_fit true has stands.Kept stood same = (refl, kept_unbroken has same)
  stands_fit true has (stands.Found next) stood same = (refl, kept_unbroken has same)
  stands_fit true has stands.Added stood same = absurd stood
  stands_fit true has stands.Gone stood same = absurd stood
  stands_fit false has stands.Added stood same = (refl, unbroken added [] same refl)
  stands_fit false has stands.Kept stood same = absurd stood
  stands_fit false has (stands.Found next) stood same = absurd stood
  stands_fit false has stands.Gone stood same = absurd stood

unrefused : (gone named broken : Bool) → gone ≡ false → named ≡ true → broken ≡ false → first_refusal ((gone, NotFound) ∷ (not named, InvalidData) ∷ (broken, InvalidData) ∷ []) ≡ None
unrefused gone named broken g n b = rw (g, n, b) refl

-- A TABLE IS CHANGED

module _ (p : Pair) (t : TransformDef) (table : ToldTable) where
  changed_by : IsTellable p.old p.new table.name → has_table table.name p.new.database ≡ true → is_odd_table p.new table.name ≡ false
      → (has_table table.name p.old.database ≡ true → is_odd_table p.old table.name ≡ false) → GivesNewRows p t table → TableIsChanged p t table
  changed_by tellable there odd old_odd gives known passing others s number has holds texts counts fits =
      let d = p.old.database in
      let name = table.name in
      let now = table_in_hand d known name in
      let columns = columns_in_hand d name now in
      let begun = rows_in_hand d name now s in
      let alike = old_rows_are_in_hand p.old p.new name now s t passing tellable has holds texts in
      let (bytes, at, after, applied, leaves) = gives columns passing others begun number has.columns alike counts fits in
      let fit = stands_fit p name now.added tellable there odd old_odd (has_table name d) refl now.standing has.stands has.columns in
      let passes : first_refusal (table_refusals d name now) ≡ None =
      unrefused (is_gone now.standing) (is_table_name name) (is_broken d columns (rows_of_package d name now.standing)) fit.0 (named p.new name odd) fit.1 in (
        bytes,
        at,
        after,
        ap (λ (o : Option ErrorKind). at_record number 0 (unless o begun) >>= all_applied number t (shapes_of columns) bytes (record_applied (change_of (change_with p.old t passing) name now))
            >>= λ r. Ok (with_anew name columns s r)) passes
            ∙ ap (λ (q : Result RowsInHand Refusal). q >>= λ r. Ok (with_anew name columns s r)) applied,
        leaves,
      )

-- ALL TABLES

module _ (p : Pair) (P : List ℕ → Type 0) where
  abbrev pub OfTable : ToldTable → Type 0
  OfTable table = is_schema_table table.name ≡ false → P table.name

  of_names : (names : List (List ℕ)) → AllByRecursion P names → AllByRecursion OfTable (map (told_table p.old p.new) names)
  of_names [] h = tt
  of_names (n ∷ ns) h = ((λ _. h.0), of_names ns h.1)

  pub of_tables : AllByRecursion P (told_names p.new) → AllByRecursion OfTable (told_tables p.old p.new)
  of_tables h = all_passing OfTable is_told (lists p.old p.new ++ map (told_table p.old p.new) (told_names p.new))
      ((λ s. yes_is_no (is_schema_table tables_name) refl s), ((λ s. yes_is_no (is_schema_table columns_name) refl s), of_names (told_names p.new) h))

module _ (p : Pair) (t : TransformDef) (fit : is_unfit p.old ≡ false) where
  all_changed : (tables : List ToldTable) → AllByRecursion (OfTable p (λ name. IsTellable p.old p.new name)) tables → AllByRecursion (OfTable p (λ name. has_table name p.new.database ≡ true)) tables
      → AllByRecursion (OfTable p (λ name. is_odd_table p.new name ≡ false)) tables → AllByRecursion (λ (table : ToldTable). is_schema_table table.name ≡ false → GivesNewRows p t table) tables
      → AllByRecursion (λ (table : ToldTable). is_schema_table table.name ≡ false → TableIsChanged p t table) tables
  all_changed [] tellable there odd gives = tt
  all_changed (table ∷ tables) tellable there odd gives = (
    (λ s. changed_by p t table (tellable.0 s) (there.0 s) (odd.0 s) (λ has. fit_at p.old table.name fit s has) (gives.0 s)),
    all_changed tables tellable.1 there.1 odd.1 gives.1,
  )

pub made_tables_are_changed : TakenPlacesHoldTheirText → GivenBackTakesOne → MadeTablesAreChanged
made_tables_are_changed takes gives p t is can =
    let fit = both_fit p t is in
    all_changed p t fit.0 (told_tables p.old p.new) (of_tables p (λ name. IsTellable p.old p.new name) can.tellable)
    (of_tables p (λ name. has_table name p.new.database ≡ true) (all_there p.new))
    (of_tables p (λ name. is_odd_table p.new name ≡ false) (none_passes (is_odd_table p.new) (told_names p.new) fit.1))
    (made_records_give_new_rows takes gives p t is can)
