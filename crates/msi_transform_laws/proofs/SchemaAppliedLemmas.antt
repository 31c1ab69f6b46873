-- Records of `_Tables` and of `_Columns` applied: tables that come, and columns that are added.
use Rattle.std.proofs.Common.{◌≡◌, ℕ, ℤ, zero, suc, ◌+◌, ◌<◌, ◌≤◌, Bool, true, false, not, ◌&&◌, T, List, [], ◌∷◌, length, map, filter, zip, refl, sym, ap, subst, ◌∙◌, arith, cond, ◌++◌, length-append}
use Rattle.std.specs.Prelude.{pos, Option, Some, None, Ok, option_and_then, unwrap_or, if◌then◌else◌, int_lt, nat_le, bytes_eq}
use Rattle.std.specs.Cmp.{int_cmp_total, tied_itself}
use Rattle.std.specs.FinMap.{find, is_sorted, put}
use Rattle.std.specs.FinMap.Entries.{find-put, is_sorted-put}
use Rattle.std.specs.List.{AllByRecursion, list_any}
use Rattle.std.specs.Ordering.{eq_by_cmp, is_eq}
use Rattle.std.specs.declared.cmp.Ordering.{Ordering}
use Rattle.std.proofs.lemmas.Bool.{lt-leb, or_parts}
use Rattle.std.proofs.lemmas.Map.Text.{is_eq-slice_cmp}
use Rattle.msi_base.specs.Lists.{has_pair, list_cmp}
use Rattle.msi_base.specs.declared.errors.ErrorKind.{ErrorKind}
use Rattle.msi_base.specs.declared.errors.ErrorKind.TheVariants.{AlreadyExists, InvalidData, InvalidInput}
use Rattle.msi_base.specs.Refusals.{first_refusal, or_refused, unless, unless_refused, ◌>>=◌}
use Rattle.msi_base.proofs.BoolLemmas.{by_test, yes_is_no}
use Rattle.msi_base.proofs.ListLemmas.{same_head}
use Rattle.msi_pool.specs.FirstFitLaws.{text_at, TakenPlacesHoldTheirText, GivenBackTakesOne}
use Rattle.msi_table_cells.specs.declared.cell.ValueRef.{ValueRef}
use Rattle.msi_table_cells.specs.CellValues.{row_values}
use Rattle.msi_table_values.specs.declared.value.Value.{Value}
use Rattle.msi_table_values.specs.declared.value.Value.TheVariants.{Null, Int, Str, Binary}
use Rattle.msi_table_values.specs.Columns.{ColumnDef, has_column}
use Rattle.msi_database_schema.specs.Schema.{value_at}
use Rattle.msi_database_schema.specs.System.{columns_columns, tables_columns}
use Rattle.msi_database_schema.proofs.AccountLemmas.{Uses, room, room_at}
use Rattle.msi_database_changes.specs.Database.{Database}
use Rattle.msi_database_changes.specs.Texts.{PoolInUse, cell_put, in_turn}
use Rattle.msi_database_changes.proofs.text_counts.RowsLemmas.{row_uses, rows_put_moves, rows_uses}
use Rattle.msi_transform_records.specs.declared.action.Action.{Action}
use Rattle.msi_transform_records.specs.declared.action.Action.TheVariants.{Add}
use Rattle.msi_transform_records.specs.declared.records.Record.{Record}
use Rattle.msi_transform_records.specs.declared.shape.Shape.{Shape}
use Rattle.msi_transform_records.specs.Actions.{told}
use Rattle.msi_transform.specs.Transforms.{TransformDef, record_key, shapes_of, value_in}
use Rattle.msi_transform_rows.specs.KeyOfRows.{key_cmp}
use Rattle.msi_transform_rows.specs.RecordRefusals.{in_turn_from}
use Rattle.msi_transform_rows.specs.RowChanges.{Rows, cells_of}
use Rattle.msi_transform_rows.specs.declared.row.RowInHand.{RowInHand}
use Rattle.msi_transform_schema.specs.SchemaChanges.{SchemaChange, SchemaInHand, TableInHand, column_added, column_key, column_put, column_record_applied, column_row_added, columns_in_hand, columns_of_package, counted_on, describing_applied, has_number, is_added, is_described, is_gone, is_name_to_list, is_next, listing_applied, name_to_list, new_column_refusals, number_told, old_column_refusals, plain_row, table_added, table_in_hand, table_put, table_record_applied, untold_table, with_column, with_table}
use Rattle.msi_transform_schema.specs.SchemaChanges as schema
use Rattle.msi_transform_schema.specs.declared.schema.Standing.{Standing}
use Rattle.msi_transform_schema.specs.declared.schema.Standing.TheVariants as stands
use Rattle.msi_transform_schema.specs.TablesInHand.{table_with}
use Rattle.msi_transform_schema.proofs.ColumnStepsLemmas.{AreTold, numbered}
use Rattle.msi_transform_making.specs.Making.{ToldRecord, listing_record}
use Rattle.msi_transform_laws.specs.CarriedOut.{is_of_key}
use Rattle.msi_transform_laws.specs.RecordsRead.{action_and_values, as_values}
use Rattle.msi_transform_laws.specs.RowsApplied.{SaySame, texts_in}
use Rattle.msi_transform_laws.specs.SchemaApplied.{CanAddColumn, CanAddColumns, CanAddTable, CanAddTables, ColumnRecordsAreApplied, ColumnToAdd, CountsSchema, IsKeptOrAdded, IsNumber, ListingRecordsAreApplied, SchemaAfter, record_of_column, texts_of_columns, with_columns_added, with_tables_added}
use Rattle.msi_transform_laws.proofs.AlikeRowsLemmas.{uses_in, uses_of_rows}
use Rattle.msi_transform_laws.proofs.AppliedRecordsLemmas.{first_applied, naming_cells}
use Rattle.msi_transform_laws.proofs.CarriedOutLemmas.{keys_total, same}
use Rattle.msi_transform_laws.proofs.GoodTextsLemmas.{AreGood, HoldsGood, none_named}
use Rattle.msi_transform_laws.proofs.KeyedEntriesLemmas.{held, sum_of-put}
use Rattle.msi_transform_laws.proofs.ListedTablesLemmas.{exact_names}
use Rattle.msi_transform_laws.proofs.PoolRoomLemmas.{all_put_there}
use Rattle.msi_transform_laws.proofs.RecordValuesLemmas.{key_seen, padded, padded_cells, seen_beside}
use Rattle.msi_transform_laws.proofs.StoredRecordsLemmas.{names_total}

-- A ROW OF A SYSTEM TABLE THAT COMES

-- the cells of both tables
abbrev pub uses_in_schema : SchemaInHand → Uses
uses_in_schema s n = rows_uses (cells_of s.listed) n + rows_uses (cells_of s.described) n

pub enough_of : (others : Uses) (s : SchemaInHand) → CountsSchema others s → (n : ℕ) → uses_in_schema s n + others n ≤ room s.pool.places n
enough_of others s counts zero = omega (arith, counts.from_one, naming_cells (cells_of s.listed) 0, naming_cells (cells_of s.described) 0)
enough_of others s counts (suc i) =
    omega (arith, counts.counts (suc i) (omega arith), naming_cells (cells_of s.listed) (suc i), naming_cells (cells_of s.described) (suc i), room_at s.pool.places (suc i) (omega arith))

pub counts_from : (others : Uses) (s : SchemaInHand) → T (is_sorted key_cmp s.listed) → T (is_sorted key_cmp s.described) → ((n : ℕ) → uses_in_schema s n + others n ≤ room s.pool.places n) → CountsSchema others s
counts_from others s listed described enough = record {
  listed = listed;
  described = described;
  counts = λ n one. omega (arith, enough n, naming_cells (cells_of s.listed) n, naming_cells (cells_of s.described) n, room_at s.pool.places n one);
  from_one = omega (arith, enough 0, naming_cells (cells_of s.listed) 0, naming_cells (cells_of s.described) 0);
}

-- the places count just these cells, beside others
abbrev pub IsExactly : Uses → SchemaInHand → Type 0
IsExactly others s = (n : ℕ) → uses_in_schema s n + others n ≡ room s.pool.places n

-- a row that is put has no more cells than come
put_within : (key : List Value) (cells : List ValueRef) (rows : Rows) (n : ℕ) → T (is_sorted key_cmp rows)
    → rows_uses (cells_of (put key_cmp key (plain_row cells) rows)) n ≤ rows_uses (cells_of rows) n + row_uses cells n
put_within key cells rows n h = omega (arith, uses_of_rows rows n, uses_of_rows (put key_cmp key (plain_row cells) rows) n, sum_of-put (uses_in n) key (plain_row cells) rows h)

-- and just these where there was none of its key
put_exactly : (key : List Value) (cells : List ValueRef) (rows : Rows) (n : ℕ) → T (is_sorted key_cmp rows) → find key_cmp key rows ≡ None
    → rows_uses (cells_of (put key_cmp key (plain_row cells) rows)) n ≡ rows_uses (cells_of rows) n + row_uses cells n
put_exactly key cells rows n h none =
    let nothing : held (uses_in n) (find key_cmp key rows) ≡ 0 = ap (held (uses_in n)) none in
    omega (arith, uses_of_rows rows n, uses_of_rows (put key_cmp key (plain_row cells) rows) n, sum_of-put (uses_in n) key (plain_row cells) rows h, nothing)

module _ (takes : TakenPlacesHoldTheirText) (gives : GivenBackTakesOne) (others : Uses) where
  -- the cells of a row that are put in the pool
  pub record Put (s : SchemaInHand) (row : List Value) (r : List ValueRef × PoolInUse) : Type 0 where
    pub balance : (n : ℕ) → room r.1.places n ≡ room s.pool.places n + row_uses r.0 n
    pub kept : (n : ℕ) → 0 < others n → text_at r.1.places n ≡ text_at s.pool.places n
    pub still : (n : ℕ) → 0 < room s.pool.places n → text_at r.1.places n ≡ text_at s.pool.places n
    pub values : row_values r.1.places r.0 ≡ row
    pub longer : length r.1.places ≤ length s.pool.places + texts_in row

  row_put : (s : SchemaInHand) (row : List Value) → CountsSchema others s → length s.pool.places + texts_in row ≤ 16777215
      → (r : List ValueRef × PoolInUse) × (in_turn (cell_put true) s.pool row ≡ Some r) × Put s row r
  row_put s row counts fits =
      let there = all_put_there s.pool row fits in
      let r = there.0 in
      let enough = enough_of others s counts in
      let moved = rows_put_moves takes gives true (room s.pool.places) (row ∷ []) s.pool (r.0 ∷ [], r.1) (λ n. omega arith)
      (ap (option_and_then (λ (q : List ValueRef × PoolInUse). Some (q.0 ∷ [], q.1))) there.1) in (
        r,
        there.1,
        record {
          balance = λ n. omega (arith, moved.moved.balance n);
          kept = λ n some. moved.moved.texts n (omega (arith, some, enough n));
          still = moved.moved.texts;
          values = same_head (row_values r.1.places r.0) row [] [] moved.values;
          longer = there.2;
        },
      )

  -- where its texts are good, so are those that are held
  put_good : (good : List ℕ → Bool) (rest : Uses) (s : SchemaInHand) (row : List Value) (r : List ValueRef × PoolInUse) → Put s row r → AreGood good row → HoldsGood good rest s.pool.places
      → HoldsGood good rest r.1.places
  put_good good rest s row r moved fine holds n more = by_test (good (text_at r.1.places n))
      (λ t. t)
      (λ bad.
      let none = none_named good r.1.places n bad r.0 (subst (AreGood good) (sym moved.values) fine) in
      ap good (moved.still n (omega (arith, more, none, moved.balance n))) ∙ holds n (omega (arith, more, none, moved.balance n)))

-- A RECORD OF `_Tables`

abbrev pub name_shapes : List Shape
name_shapes = shapes_of tables_columns

module _ (change : SchemaChange) (r : Record) (name : List ℕ) (same : as_values change.by r ≡ (Add 1, Str name ∷ [])) where
  action_is : r.action ≡ Add 1
  action_is = ap (λ (q : Action × List Value). q.0) same

  key_is : record_key change.by name_shapes r ≡ Str name ∷ []
  key_is = key_seen change.by (zip (told name_shapes r.action) r.cells)
      ∙ ap (λ (l : List ((ℕ × Shape) × Value)). map (λ e. e.1) (filter is_of_key l)) (seen_beside change.by (told name_shapes r.action) r.cells)
      ∙ ap (λ (q : Action × List Value). map (λ e. e.1) (filter is_of_key (zip (told name_shapes q.0) q.1))) same

  listed_by : (s : SchemaInHand) → is_name_to_list name ≡ true → table_record_applied change name_shapes s r ≡ table_added change name s
  listed_by s h =
      ap (λ (key : List Value). or_refused InvalidData (name_to_list (value_at 0 key)) >>= listing_applied change s r.action) key_is
      ∙ ap (λ b. or_refused InvalidData (if b then Some name else None) >>= listing_applied change s r.action) h
      ∙ ap (λ (a : Action). listing_applied change s a name) action_is

added_anew : (change : SchemaChange) (s : SchemaInHand) (name : List ℕ) → CanAddTable change.database s.tables name → (r : List ValueRef × PoolInUse) → in_turn (cell_put true) s.pool (Str name ∷ []) ≡ Some r
    → table_added change name s ≡ Ok (schema.with_table_added name s r)
added_anew change s name can r put_is =
    let gone : is_gone (table_in_hand change.database s.tables name).standing ≡ true =
    ap (λ (o : Option TableInHand). is_gone (unwrap_or o (untold_table change.database name)).standing) can.absent
    ∙ ap (λ b. is_gone (if b then stands.Kept else stands.Gone)) can.new in
    ap (λ b. if b then table_put change name s else unless_refused ((not change.passing.added_table_exists, AlreadyExists) ∷ []) (schema.with_table_found name (table_in_hand change.database s.tables name) s)) gone
    ∙ ap (λ b. unless_refused ((b, InvalidInput) ∷ []) s >>= λ s. or_refused InvalidInput (in_turn (cell_put true) s.pool (Str name ∷ [])) >>= λ r. Ok (schema.with_table_added name s r)) can.unlisted
    ∙ ap (λ (o : Option (List ValueRef × PoolInUse)). or_refused InvalidInput o >>= λ r. Ok (schema.with_table_added name s r)) put_is

pub same_first : (t : TransformDef) (r : ToldRecord) (rs : List ToldRecord) (q : Record) (qs : List Record) → SaySame t (r ∷ rs) (q ∷ qs) → (as_values t q ≡ action_and_values r) × SaySame t rs qs
same_first t r rs q qs h = (cc, cc)

-- no row lists the table
abbrev pub IsAbsent : Rows → List ℕ → Type 0
IsAbsent rows name = find key_cmp (Str name ∷ []) rows ≡ None

abbrev pub text_in_key : List Value → List ℕ
text_in_key (Str text ∷ vs) = text
text_in_key _ = []

abbrev pub number_in_key : List Value → ℕ
number_in_key (v ∷ Int (pos n) ∷ vs) = n
number_in_key _ = 0

names_tied : (name : List ℕ) → bytes_eq name name ≡ true
names_tied name = sym (is_eq-slice_cmp name name) ∙ ap is_eq (tied_itself names_total name)

keys_apart : (name m : List ℕ) → bytes_eq name m ≡ false → eq_by_cmp key_cmp (Str m ∷ []) (Str name ∷ []) ≡ false
keys_apart name m apart = by_test (eq_by_cmp key_cmp (Str m ∷ []) (Str name ∷ []))
    (λ t. yes_is_no (bytes_eq name m) (ap (bytes_eq name) (ap text_in_key (same (Str m ∷ []) (Str name ∷ []) t)) ∙ names_tied name) apart)
    (λ t. t)

absent_later : (name : List ℕ) (row : RowInHand) (rows : Rows) (names : List (List ℕ)) → list_any (bytes_eq name) names ≡ false → AllByRecursion (IsAbsent rows) names → AllByRecursion (IsAbsent (put key_cmp (Str name ∷ []) row rows)) names
absent_later name row rows [] apart h = tt
absent_later name row rows (m ∷ ms) apart h =
    let q = or_parts (bytes_eq name m) (list_any (bytes_eq name) ms) apart in
    (find-put key_cmp keys_total (Str m ∷ []) (Str name ∷ []) row rows ∙ rw (keys_apart name m q.0) h.0, absent_later name row rows ms q.1 h.1)

module _ (takes : TakenPlacesHoldTheirText) (gives : GivenBackTakesOne) (change : SchemaChange) (others : Uses) where
  pub listings : (table number : ℕ) (names : List (List ℕ)) (before : SchemaInHand) (stored : List Record) → SaySame change.by (map (listing_record (Add 1)) names) stored
      → CanAddTables change.database before.tables names → CountsSchema others before → length before.pool.places + length names ≤ 16777215
      → (after : SchemaInHand) × (in_turn_from table (table_record_applied change name_shapes) number before stored ≡ Ok after) × SchemaAfter others (with_tables_added before.tables names) (length names) before after
      × ((good : List ℕ → Bool) (rest : Uses) → AllByRecursion (λ name. good name ≡ true) names → HoldsGood good rest before.pool.places → HoldsGood good rest after.pool.places)
      × (AllByRecursion (IsAbsent before.listed) names → has_pair bytes_eq names ≡ false → IsExactly others before → IsExactly others after × (after.described ≡ before.described))
  listings table number [] before [] same can counts fits =
      (before, refl, record { tables = refl; counted = counts; kept = λ n some. refl; longer = omega arith }, (λ good rest fine holds. holds), (λ absent apart exactly. (exactly, refl)))
  listings table number [] before (q ∷ qs) same can counts fits = absurd cc
  listings table number (name ∷ names) before [] same can counts fits = absurd cc
  listings table number (name ∷ names) before (q ∷ qs) same can counts fits =
      let says = same_first change.by (listing_record (Add 1) name) (map (listing_record (Add 1)) names) q qs same in
      let (r, put_is, moved) = row_put takes gives others before (Str name ∷ []) counts (omega (arith, fits)) in
      let s = schema.with_table_added name before r in
      let step = listed_by change q name says.0 before can.0.listed ∙ added_anew change before name can.0 r put_is in
      let enough = enough_of others before counts in
      let now = counts_from others s (is_sorted-put key_cmp keys_total (Str name ∷ []) (plain_row r.0) before.listed counts.listed) counts.described
      (λ n. omega (arith, enough n, moved.balance n, put_within (Str name ∷ []) r.0 before.listed n counts.listed)) in
      let (after, ran, are, stays, exact) = listings table (number + 1) names s qs says.1 can.1 now (omega (arith, fits, moved.longer)) in (
        after,
        first_applied table number (table_record_applied change name_shapes) before s q qs step ∙ ran,
        record { tables = are.tables; counted = are.counted; kept = λ n some. are.kept n some ∙ moved.kept n some; longer = omega (arith, are.longer, moved.longer) },
        (λ good rest fine holds. stays good rest fine.1 (put_good takes gives others good rest before (Str name ∷ []) r moved (fine.0, tt) holds)),
        (λ absent apart exactly.
            let q = or_parts (list_any (bytes_eq name) names) (has_pair bytes_eq names) apart in
            exact (absent_later name (plain_row r.0) before.listed names q.0 absent.1) q.1
            (λ n. omega (arith, exactly n, moved.balance n, put_exactly (Str name ∷ []) r.0 before.listed n counts.listed absent.0))),
      )

pub listing_records_are_applied : TakenPlacesHoldTheirText → GivenBackTakesOne → ListingRecordsAreApplied
listing_records_are_applied takes gives change others before names stored table number same can counts fits =
    let (after, ran, are, stays, exact) = listings takes gives change others table number names before stored same can counts fits in (after, ran, are)

-- A RECORD OF `_Columns`

abbrev column_shapes : List Shape
column_shapes = shapes_of columns_columns

four_cells : (t : TransformDef) (row : List ValueRef) (a b c d : Value) → map (value_in t) row ≡ a ∷ b ∷ c ∷ d ∷ [] → map (value_in t) (padded columns_columns row) ≡ a ∷ b ∷ c ∷ d ∷ []
four_cells t (w ∷ x ∷ y ∷ z ∷ []) a b c d h = h
four_cells t [] a b c d h = let long = ap (λ (l : List Value). length l) h in absurd (omega (arith, long))
four_cells t (w ∷ []) a b c d h = let long = ap (λ (l : List Value). length l) h in absurd (omega (arith, long))
four_cells t (w ∷ x ∷ []) a b c d h = let long = ap (λ (l : List Value). length l) h in absurd (omega (arith, long))
four_cells t (w ∷ x ∷ y ∷ []) a b c d h = let long = ap (λ (l : List Value). length l) h in absurd (omega (arith, long))
four_cells t (w ∷ x ∷ y ∷ z ∷ u ∷ us) a b c d h = let long = ap (λ (l : List Value). length l) h in absurd (omega (arith, long))

abbrev pub row_of : ColumnToAdd → List Value
row_of c = Str c.table ∷ c.number ∷ c.name ∷ c.bits ∷ []

-- neither its number nor its table's standing is out of the way
not_gone : (standing : Standing) → IsKeptOrAdded standing → is_gone standing ≡ false
not_gone stands.Kept k = refl
not_gone stands.Added k = refl
not_gone (stands.Found next) k = absurd k
not_gone stands.Gone k = absurd k

same_standing : (standing : Standing) (v : Value) → IsKeptOrAdded standing → standing ≡ counted_on v standing
same_standing stands.Kept Null k = refl
same_standing stands.Kept (Int n) k = refl
same_standing stands.Kept (Str text) k = refl
same_standing stands.Kept Binary k = refl
same_standing stands.Added Null k = refl
same_standing stands.Added (Int n) k = refl
same_standing stands.Added (Str text) k = refl
same_standing stands.Added Binary k = refl
same_standing (stands.Found next) v k = absurd k
same_standing stands.Gone v k = absurd k

same_number : (standing : Standing) (count : ℕ) (v : Value) → IsKeptOrAdded standing → IsNumber (count + 1) v → pos (count + 1) ≡ number_told standing count v
same_number stands.Kept count Null k h = refl
same_number stands.Added count Null k h = refl
same_number (stands.Found next) count Null k h = absurd k
same_number stands.Gone count Null k h = absurd k
same_number standing count (Int n) k h = sym h
same_number standing count (Str text) k h = absurd h
same_number standing count Binary k h = absurd h

and_false : (b : Bool) → (b && false) ≡ false
and_false true = refl
and_false false = refl

no_number : (count : ℕ) → has_number count (pos (count + 1)) ≡ false
no_number count = ap (λ b. int_lt (pos 0) (pos (count + 1)) && b) (lt-leb (count + 1) count (omega arith)) ∙ and_false (int_lt (pos 0) (pos (count + 1)))

next_is : (count : ℕ) → not (is_next count (pos (count + 1))) ≡ false
next_is count = ap (λ (o : Ordering). not (is_eq o)) (tied_itself int_cmp_total (pos (count + 1)))

none_of_four : (a b c d : Bool) (k l m n : ErrorKind) → a ≡ false → b ≡ false → c ≡ false → d ≡ false → first_refusal ((a, k) ∷ (b, l) ∷ (c, m) ∷ (d, n) ∷ []) ≡ None
none_of_four a b c d k l m n e f g h = rw (e, f, g, h) refl

module _ (change : SchemaChange) (c : ColumnToAdd) (s : SchemaInHand) (can : CanAddColumn change.database s.tables c) where
  abbrev d : Database
  d = change.database

  abbrev now : TableInHand
  now = table_in_hand d s.tables c.table

  abbrev columns : List ColumnDef
  columns = columns_in_hand d c.table now

  abbrev number : ℤ
  number = pos (length columns + 1)

  abbrev described_row : List Value
  described_row = Str c.table ∷ Int number ∷ c.name ∷ c.bits ∷ []

  facts : AreTold change (row_of c) s c.table now now c.table c.column number described_row
  facts = record {
    there = not_gone now.standing can.stands;
    column_is = can.described;
    number_is = same_number now.standing (length columns) c.number can.stands can.next;
    values_are = refl;
    table_is = refl;
    told_is = ap (λ (standing : Standing). table_with standing now.added) (same_standing now.standing c.number can.stands);
  }

  column_put_is : (r : List ValueRef × PoolInUse) → in_turn (cell_put true) s.pool described_row ≡ Some r
      → column_added change (row_of c) s c.table ≡ Ok (with_column c.table now c.column number s r)
  column_put_is r put_is =
      let passes : first_refusal (new_column_refusals now.standing columns number c.column) ≡ None =
      none_of_four (not (is_next (length columns) number)) (has_column c.column.name columns) (c.column.is_primary_key && not (is_added now.standing)) (nat_le 32 (length columns))
      InvalidData InvalidData InvalidInput InvalidInput (next_is (length columns)) can.apart can.plain can.few in
      numbered change (row_of c) s c.table now now c.table c.column number described_row refl facts
      ∙ ap (λ b. if b then unless_refused (old_column_refusals change (is_described s c.table number described_row)) (with_table c.table now s) else column_put c.table now columns c.column number described_row s) (no_number (length columns))
      ∙ ap (λ (o : Option ErrorKind). unless o s >>= λ s. or_refused InvalidInput (in_turn (cell_put true) s.pool described_row) >>= λ r. Ok (with_column c.table now c.column number s r)) passes
      ∙ ap (λ (o : Option (List ValueRef × PoolInUse)). or_refused InvalidInput o >>= λ r. Ok (with_column c.table now c.column number s r)) put_is

  record_is : (r : Record) → as_values change.by r ≡ (Add 4, row_of c) → column_record_applied change column_shapes s r ≡ column_added change (row_of c) s c.table
  record_is r same =
      let action : r.action ≡ Add 4 = ap (λ (q : Action × List Value). q.0) same in
      let values : map (value_in change.by) r.cells ≡ row_of c = ap (λ (q : Action × List Value). q.1) same in
      ap (describing_applied change column_shapes s r) action
      ∙ ap (λ (row : List Value). column_row_added change row s) (ap (map (value_in change.by)) (padded_cells columns_columns r.cells) ∙ four_cells change.by r.cells (Str c.table) c.number c.name c.bits values)

-- no row describes a column of a table behind those that it has in hand
abbrev pub DescribesNoMore : Database → SchemaInHand → Type 0
DescribesNoMore d s = (table : List ℕ) (number : ℕ) → length (columns_in_hand d table (table_in_hand d s.tables table)) < number → find key_cmp (column_key table number) s.described ≡ None

module _ (d : Database) (c : ColumnToAdd) (s : SchemaInHand) (r : List ValueRef × PoolInUse) (no_more : DescribesNoMore d s) where
  abbrev hand : TableInHand
  hand = table_in_hand d s.tables c.table

  abbrev with_it : TableInHand
  with_it = record { standing = hand.standing; added = hand.added ++ c.column ∷ [] }

  abbrev many : ℕ
  many = length (columns_in_hand d c.table hand)

  abbrev its_key : List Value
  its_key = Str c.table ∷ Int (pos (many + 1)) ∷ []

  one_more : length (columns_in_hand d c.table with_it) ≡ many + 1
  one_more =
      let old_columns = columns_of_package d c.table hand.standing in
      omega (arith, length-append old_columns (hand.added ++ c.column ∷ []), length-append hand.added (c.column ∷ []), length-append old_columns hand.added)

  hand_put : (table : List ℕ) (b : Bool) → eq_by_cmp list_cmp table c.table ≡ b → table_in_hand d (put list_cmp c.table with_it s.tables) table ≡ cond b with_it (table_in_hand d s.tables table)
  hand_put table b t =
      ap (λ (o : Option TableInHand). unwrap_or o (untold_table d table)) (find-put list_cmp names_total table c.table with_it s.tables ∙ ap (λ b. cond b (Some with_it) (find list_cmp table s.tables)) t) ∙ by_side b
    where
      by_side : (b : Bool) → unwrap_or (cond b (Some with_it) (find list_cmp table s.tables)) (untold_table d table) ≡ cond b with_it (table_in_hand d s.tables table)
      by_side true = refl
      by_side false = refl

  pub no_more_later : DescribesNoMore d (with_column c.table hand c.column (pos (many + 1)) s r)
  no_more_later table number less =
      let put_found = find-put key_cmp keys_total (column_key table number) its_key (plain_row r.0) s.described in
      by_test (eq_by_cmp list_cmp table c.table)
      (λ t.
      let same_table : table ≡ c.table = exact_names table c.table t in
      let less_now : length (columns_in_hand d table with_it) < number = subst (λ (u : TableInHand). length (columns_in_hand d table u) < number) (hand_put table true t) less in
      let now : length (columns_in_hand d table with_it) ≡ many + 1 = ap (λ (x : List ℕ). length (columns_in_hand d x with_it)) same_table ∙ one_more in
      let before : length (columns_in_hand d table (table_in_hand d s.tables table)) ≡ many = ap (λ (x : List ℕ). length (columns_in_hand d x (table_in_hand d s.tables x))) same_table in
      let differ : eq_by_cmp key_cmp (column_key table number) its_key ≡ false = by_test (eq_by_cmp key_cmp (column_key table number) its_key)
      (λ u. let numbers : number ≡ many + 1 = ap number_in_key (same (column_key table number) its_key u) in absurd (omega (arith, less_now, now, numbers)))
      (λ u. u) in
      put_found ∙ rw differ (no_more table number (omega (arith, less_now, now, before))))
      (λ t.
      let less_now : length (columns_in_hand d table (table_in_hand d s.tables table)) < number = subst (λ (u : TableInHand). length (columns_in_hand d table u) < number) (hand_put table false t) less in
      let differ : eq_by_cmp key_cmp (column_key table number) its_key ≡ false = by_test (eq_by_cmp key_cmp (column_key table number) its_key)
      (λ u. yes_is_no (eq_by_cmp list_cmp table c.table) (ap (eq_by_cmp list_cmp table) (sym (ap text_in_key (same (column_key table number) its_key u))) ∙ ap is_eq (tied_itself names_total table)) t)
      (λ u. u) in
      put_found ∙ rw differ (no_more table number less_now))

module _ (takes : TakenPlacesHoldTheirText) (gives : GivenBackTakesOne) (change : SchemaChange) (others : Uses) where
  pub columns_put : (table number : ℕ) (cs : List ColumnToAdd) (before : SchemaInHand) (stored : List Record) → SaySame change.by (map record_of_column cs) stored
      → CanAddColumns change.database before.tables cs → CountsSchema others before → length before.pool.places + texts_of_columns cs ≤ 16777215
      → (after : SchemaInHand) × (in_turn_from table (column_record_applied change column_shapes) number before stored ≡ Ok after)
      × SchemaAfter others (with_columns_added change.database before.tables cs) (texts_of_columns cs) before after
      × ((good : List ℕ → Bool) (rest : Uses) → AllByRecursion (λ c. AreGood good (row_of c)) cs → HoldsGood good rest before.pool.places → HoldsGood good rest after.pool.places)
      × (DescribesNoMore change.database before → IsExactly others before → IsExactly others after)
  columns_put table number [] before [] same can counts fits =
      (before, refl, record { tables = refl; counted = counts; kept = λ n some. refl; longer = omega arith }, (λ good rest fine holds. holds), (λ no_more exactly. exactly))
  columns_put table number [] before (q ∷ qs) same can counts fits = absurd cc
  columns_put table number (c ∷ cs) before [] same can counts fits = absurd cc
  columns_put table number (c ∷ cs) before (q ∷ qs) same can counts fits =
      let says = same_first change.by (record_of_column c) (map record_of_column cs) q qs same in
      let row = described_row change c before can.0 in
      let key = Str c.table ∷ Int (pos (length (columns_in_hand change.database c.table (table_in_hand change.database before.tables c.table)) + 1)) ∷ [] in
      let (r, put_is, moved) = row_put takes gives others before row counts (omega (arith, fits)) in
      let s = with_column c.table (table_in_hand change.database before.tables c.table) c.column (pos (length (columns_in_hand change.database c.table (table_in_hand change.database before.tables c.table)) + 1)) before r in
      let step = record_is change c before can.0 q says.0 ∙ column_put_is change c before can.0 r put_is in
      let enough = enough_of others before counts in
      let now = counts_from others s counts.listed (is_sorted-put key_cmp keys_total key (plain_row r.0) before.described counts.described)
      (λ n. omega (arith, enough n, moved.balance n, put_within key r.0 before.described n counts.described)) in
      let (after, ran, are, stays, exact) = columns_put table (number + 1) cs s qs says.1 can.1 now (omega (arith, fits, moved.longer)) in (
        after,
        first_applied table number (column_record_applied change column_shapes) before s q qs step ∙ ran,
        record { tables = are.tables; counted = are.counted; kept = λ n some. are.kept n some ∙ moved.kept n some; longer = omega (arith, are.longer, moved.longer) },
        (λ good rest fine holds. stays good rest fine.1 (put_good takes gives others good rest before row r moved (fine.0.0, (refl, (fine.0.1.1.0, (fine.0.1.1.1.0, tt)))) holds)),
        (λ no_more exactly. exact (no_more_later change.database c before r no_more)
            (λ n. omega (arith, exactly n, moved.balance n, put_exactly key r.0 before.described n counts.described (no_more c.table (length (columns_in_hand change.database c.table (table_in_hand change.database before.tables c.table)) + 1) (omega arith))))),
      )

pub column_records_are_applied : TakenPlacesHoldTheirText → GivenBackTakesOne → ColumnRecordsAreApplied
column_records_are_applied takes gives change others before columns stored table number same can counts fits =
    let (after, ran, are, stays, exact) = columns_put takes gives change others table number columns before stored same can counts fits in (after, ran, are)
