-- Records of `_Tables` that remove tables, applied.
use Rattle.std.proofs.Common.{◌≡◌, ℕ, zero, suc, ◌+◌, ◌<◌, ◌≤◌, Bool, true, false, cond, not, ◌||◌, T, List, [], ◌∷◌, length, map, filter, fold, zip, refl, ap, ◌∙◌, arith}
use Rattle.std.specs.Prelude.{pos, Option, Some, None, Ok, filter_map, unwrap_or, if◌then◌else◌, count_by, ◌==◌}
use Rattle.std.specs.FinMap.{find, is_sorted, put}
use Rattle.std.specs.FinMap.Entries.{is_sorted-where_key}
use Rattle.std.specs.List.{cons_option, list_any, range_with_len}
use Rattle.std.specs.Cmp.{tied_itself}
use Rattle.std.specs.Ordering.{eq_by_cmp, is_eq}
use Rattle.msi_base.specs.Lists.{has_pair, list_cmp}
use Rattle.msi_base.specs.declared.errors.ErrorKind.TheVariants.{InvalidData, NotFound}
use Rattle.msi_base.specs.Refusals.{or_refused, unless_refused, ◌>>=◌}
use Rattle.msi_base.proofs.BoolLemmas.{by_test, yes_is_no}
use Rattle.msi_pool.specs.FirstFitLaws.{text_at, TakenPlacesHoldTheirText, GivenBackTakesOne}
use Rattle.msi_table.specs.Census.{numbers_of_rows}
use Rattle.msi_table_cells.specs.declared.cell.ValueRef.{ValueRef}
use Rattle.msi_table_cells.specs.KeyOrder.{same_key}
use Rattle.msi_table_values.specs.declared.value.Value.{Value}
use Rattle.msi_table_values.specs.declared.value.Value.TheVariants.{Int, Str}
use Rattle.msi_database_schema.specs.Schema.{value_at}
use Rattle.msi_database_schema.proofs.AccountLemmas.{Uses, room}
use Rattle.msi_database_changes.specs.Database.{Database}
use Rattle.msi_database_changes.specs.Texts.{PoolInUse, cell_released, rows_released}
use Rattle.msi_database_changes.proofs.text_counts.RowsLemmas.{rows_released_moves, rows_uses}
use Rattle.msi_transform_records.specs.declared.action.Action.{Action}
use Rattle.msi_transform_records.specs.declared.action.Action.TheVariants.{Remove}
use Rattle.msi_transform_records.specs.declared.records.Record.{Record}
use Rattle.msi_transform_records.specs.declared.shape.Shape.{Shape}
use Rattle.msi_transform_records.specs.Actions.{told}
use Rattle.msi_transform.specs.Transforms.{record_key}
use Rattle.msi_transform_rows.specs.KeyOfRows.{key_cmp}
use Rattle.msi_transform_rows.specs.RecordRefusals.{in_turn_from}
use Rattle.msi_transform_rows.specs.RowChanges.{Rows, cells_of, row_at, without_row_at}
use Rattle.msi_transform_rows.specs.declared.row.RowInHand.{RowInHand}
use Rattle.msi_transform_schema.specs.SchemaApplying.{system_rows}
use Rattle.msi_transform_schema.specs.SchemaChanges.{SchemaChange, SchemaInHand, TableInHand, column_key, column_keys, columns_in_hand, is_gone, listing_applied, name_to_list, table_in_hand, table_record_applied, untold_table, with_table_gone, without_keys}
use Rattle.msi_transform_schema.specs.declared.schema.Standing.TheVariants as stands
use Rattle.msi_transform_making.specs.Making.{listing_record}
use Rattle.msi_transform_laws.specs.CarriedOut.{is_of_key}
use Rattle.msi_transform_laws.specs.RecordsRead.{as_values}
use Rattle.msi_transform_laws.specs.RowsApplied.{SaySame}
use Rattle.msi_transform_laws.specs.SchemaApplied.{CountsSchema, SchemaAfter}
use Rattle.msi_transform_laws.specs.TablesRemoved.{CanRemoveTable, CanRemoveTables, RemovingRecordsAreApplied, cells_removed, with_tables_removed}
use Rattle.msi_transform_laws.proofs.AlikeRowsLemmas.{found_without, uses_in, uses_of_rows}
use Rattle.msi_transform_laws.proofs.AppliedRecordsLemmas.{first_applied, naming_cells}
use Rattle.msi_transform_laws.proofs.CarriedOutLemmas.{keys_total, same}
use Rattle.msi_transform_laws.proofs.KeyedEntriesLemmas.{held, sum_of, sum_of-without}
use Rattle.msi_transform_laws.proofs.PoolRoomLemmas.{row_released_long}
use Rattle.msi_transform_laws.proofs.RecordValuesLemmas.{key_seen, seen_beside}
use Rattle.msi_transform_laws.proofs.SchemaAppliedLemmas.{counts_from, enough_of, name_shapes, same_first, uses_in_schema}

neither : (a b : Bool) → (a || b) ≡ false → (a ≡ false) × (b ≡ false)
neither true b h = yes_is_no true refl h
neither false b h = (refl, h)

-- ROWS UNDER SEVERAL KEYS

abbrev found_rows : Rows → List (List Value) → List RowInHand
found_rows rows keys = filter_map (λ key. row_at key rows) keys

abbrev cells_found : Rows → List (List Value) → List (List ValueRef)
cells_found rows keys = map (λ (row : RowInHand). row.cells) (found_rows rows keys)

tied : (key : List Value) → same_key key key ≡ true
tied key = ap is_eq (tied_itself keys_total key)

found_apart : (key : List Value) (rows : Rows) (keys : List (List Value)) → list_any (same_key key) keys ≡ false → found_rows (without_row_at key rows) keys ≡ found_rows rows keys
found_apart key rows [] h = refl
found_apart key rows (k ∷ ks) h =
    let q = neither (same_key key k) (list_any (same_key key) ks) h in
    let apart : eq_by_cmp key_cmp k key ≡ false = by_test (eq_by_cmp key_cmp k key)
    (λ t. yes_is_no (same_key key k) (ap (λ (l : List Value). same_key key l) (same k key t) ∙ tied key) q.0)
    (λ t. t) in
    let first : row_at k (without_row_at key rows) ≡ row_at k rows = found_without k key rows ∙ ap (λ b. cond b None (find key_cmp k rows)) apart in
    λ i. cons_option (first i) (found_apart key rows ks q.1 i)

module _ (n : ℕ) where
  first_cells : (o : Option RowInHand) (rows : List RowInHand) → rows_uses (map (λ (row : RowInHand). row.cells) (cons_option o rows)) n ≡ held (uses_in n) o + rows_uses (map (λ (row : RowInHand). row.cells) rows) n
  first_cells None rows = omega arith
  first_cells (Some row) rows = refl

  keys_left : (rows : Rows) (keys : List (List Value)) → T (is_sorted key_cmp rows) → has_pair same_key keys ≡ false
      → sum_of (uses_in n) (without_keys rows keys) + rows_uses (cells_found rows keys) n ≡ sum_of (uses_in n) rows
  keys_left rows [] h apart = omega arith
  keys_left rows (k ∷ ks) h apart =
      let q = neither (list_any (same_key k) ks) (has_pair same_key ks) apart in
      let rest = keys_left (without_row_at k rows) ks (is_sorted-where_key key_cmp (λ (x : List Value). not (eq_by_cmp key_cmp k x)) rows h) q.1 in
      let others : rows_uses (cells_found (without_row_at k rows) ks) n ≡ rows_uses (cells_found rows ks) n =
      ap (λ (l : List RowInHand). rows_uses (map (λ (row : RowInHand). row.cells) l) n) (found_apart k rows ks q.0) in
      omega (arith, rest, others, first_cells (row_at k rows) (found_rows rows ks), sum_of-without (uses_in n) k rows h)

sorted_left : (rows : Rows) (keys : List (List Value)) → T (is_sorted key_cmp rows) → T (is_sorted key_cmp (without_keys rows keys))
sorted_left rows [] h = h
sorted_left rows (k ∷ ks) h = sorted_left (without_row_at k rows) ks (is_sorted-where_key key_cmp (λ (x : List Value). not (eq_by_cmp key_cmp k x)) rows h)

-- THE KEYS OF COLUMNS

abbrev number_in : List Value → ℕ
number_in (v ∷ Int (pos n) ∷ vs) = n
number_in _ = 0

keys_apart : (name : List ℕ) (m n len : ℕ) → m < n → list_any (same_key (column_key name m)) (map (column_key name) (range_with_len n len)) ≡ false
keys_apart name m n zero h = refl
keys_apart name m n (suc len) h =
    let here : same_key (column_key name m) (column_key name n) ≡ false = by_test (same_key (column_key name m) (column_key name n))
    (λ t. let one : m ≡ n = ap number_in (same (column_key name m) (column_key name n) t) in absurd (omega (arith, one, h)))
    (λ t. t) in
    rw (here, keys_apart name m (n + 1) len (omega (arith, h))) refl

all_keys_apart : (name : List ℕ) (n len : ℕ) → has_pair same_key (map (column_key name) (range_with_len n len)) ≡ false
all_keys_apart name n zero = refl
all_keys_apart name n (suc len) = rw (keys_apart name n (n + 1) len (omega arith), all_keys_apart name (n + 1) len) refl

-- A TABLE THAT GOES

rows_released_long : (pool : PoolInUse) (rows : List (List ValueRef)) → length (rows_released pool rows).places ≡ length pool.places
rows_released_long pool [] = refl
rows_released_long pool (row ∷ rows) = rows_released_long (fold cell_released pool row) rows ∙ row_released_long pool row

module _ (takes : TakenPlacesHoldTheirText) (gives : GivenBackTakesOne) (d : Database) (others : Uses) (name : List ℕ) (s : SchemaInHand)
    (counts : CountsSchema (λ n. count_by (λ m. m == n) (numbers_of_rows (system_rows d name)) + others n) s) where
  abbrev kept : TableInHand
  kept = record { standing = stands.Kept; added = [] }

  abbrev after : SchemaInHand
  after = with_table_gone d name kept s

  abbrev keys : List (List Value)
  keys = column_keys d name kept

  abbrev own : List (List Value)
  own = (Str name ∷ []) ∷ []

  abbrev rows : List (List ValueRef)
  rows = system_rows d name

  abbrev described : List (List ValueRef)
  described = cells_found s.described keys

  abbrev listed : List (List ValueRef)
  listed = cells_found s.listed own

  described_left : (n : ℕ) → rows_uses (cells_of after.described) n + rows_uses described n ≡ rows_uses (cells_of s.described) n
  described_left n = omega (arith, uses_of_rows after.described n, uses_of_rows s.described n, keys_left n s.described keys counts.described (all_keys_apart name 1 (length (columns_in_hand d name kept))))

  listed_left : (n : ℕ) → rows_uses (cells_of after.listed) n + rows_uses listed n ≡ rows_uses (cells_of s.listed) n
  listed_left n = omega (arith, uses_of_rows after.listed n, uses_of_rows s.listed n, keys_left n s.listed own counts.listed refl)

  abbrev left : Uses
  left n = uses_in_schema after n + others n

  pub gone : SchemaAfter others (put list_cmp name (record { standing = stands.Gone; added = [] }) s.tables) 0 s after
  gone =
      let enough = enough_of (λ n. count_by (λ m. m == n) (numbers_of_rows rows) + others n) s counts in
      let one = rows_released_moves takes gives true (λ n. left n + rows_uses described n + rows_uses listed n) rows s.pool
      (λ n. omega (arith, enough n, described_left n, listed_left n, naming_cells rows n)) in
      let first = rows_released s.pool rows in
      let two = rows_released_moves takes gives true (λ n. left n + rows_uses listed n) described first
      (λ n. omega (arith, enough n, described_left n, listed_left n, naming_cells rows n, one.balance n)) in
      let second = rows_released first described in
      let three = rows_released_moves takes gives true left listed second
      (λ n. omega (arith, enough n, described_left n, listed_left n, naming_cells rows n, one.balance n, two.balance n)) in
      record {
        tables = refl;
        counted = counts_from others after
            (is_sorted-where_key key_cmp (λ (x : List Value). not (eq_by_cmp key_cmp (Str name ∷ []) x)) s.listed counts.listed) (sorted_left s.described keys counts.described)
            (λ n. omega (arith, enough n, described_left n, listed_left n, naming_cells rows n, one.balance n, two.balance n, three.balance n));
        kept = λ n some. three.texts n (omega (arith, some)) ∙ two.texts n (omega (arith, some)) ∙ one.texts n (omega (arith, some));
        longer = omega (arith, rows_released_long s.pool rows, rows_released_long first described, rows_released_long second listed);
      }

  -- exactly the cells that were counted are given back, and each place that is still in use keeps its text
  pub gone_exactly : ((n : ℕ) → room after.pool.places n + (uses_in_schema s n + rows_uses rows n) ≡ room s.pool.places n + uses_in_schema after n)
      × ((n : ℕ) → uses_in_schema after n ≤ uses_in_schema s n) × ((n : ℕ) → 0 < left n → text_at after.pool.places n ≡ text_at s.pool.places n)
  gone_exactly =
      let enough = enough_of (λ n. count_by (λ m. m == n) (numbers_of_rows rows) + others n) s counts in
      let one = rows_released_moves takes gives true (λ n. left n + rows_uses described n + rows_uses listed n) rows s.pool
      (λ n. omega (arith, enough n, described_left n, listed_left n, naming_cells rows n)) in
      let first = rows_released s.pool rows in
      let two = rows_released_moves takes gives true (λ n. left n + rows_uses listed n) described first
      (λ n. omega (arith, enough n, described_left n, listed_left n, naming_cells rows n, one.balance n)) in
      let second = rows_released first described in
      let three = rows_released_moves takes gives true left listed second
      (λ n. omega (arith, enough n, described_left n, listed_left n, naming_cells rows n, one.balance n, two.balance n)) in (
        (λ n. omega (arith, described_left n, listed_left n, one.balance n, two.balance n, three.balance n)),
        (λ n. omega (arith, described_left n, listed_left n)),
        (λ n some. three.texts n some ∙ two.texts n (omega (arith, some)) ∙ one.texts n (omega (arith, some))),
      )

-- A RECORD THAT REMOVES A TABLE

module _ (change : SchemaChange) (r : Record) (name : List ℕ) (says : as_values change.by r ≡ (Remove, Str name ∷ [])) where
  pub key_is : record_key change.by name_shapes r ≡ Str name ∷ []
  key_is = key_seen change.by (zip (told name_shapes r.action) r.cells)
      ∙ ap (λ (l : List ((ℕ × Shape) × Value)). map (λ e. e.1) (filter is_of_key l)) (seen_beside change.by (told name_shapes r.action) r.cells)
      ∙ ap (λ (q : Action × List Value). map (λ e. e.1) (filter is_of_key (zip (told name_shapes q.0) q.1))) says

  removed_by : (s : SchemaInHand) → CanRemoveTable change.database s.tables name
      → table_record_applied change name_shapes s r ≡ Ok (with_table_gone change.database name (record { standing = stands.Kept; added = [] }) s)
  removed_by s can =
      let table : table_in_hand change.database s.tables name ≡ record { standing = stands.Kept; added = [] } =
      ap (λ (o : Option TableInHand). unwrap_or o (untold_table change.database name)) can.untold
      ∙ ap (λ b. record { standing = if b then stands.Kept else stands.Gone; added = [] }) can.there in
      ap (λ (key : List Value). or_refused InvalidData (name_to_list (value_at 0 key)) >>= listing_applied change s r.action) key_is
      ∙ ap (λ b. or_refused InvalidData (if b then Some name else None) >>= listing_applied change s r.action) can.listed
      ∙ ap (λ (q : Action × List Value). listing_applied change s q.0 name) says
      ∙ ap (λ (t : TableInHand). if is_gone t.standing then unless_refused ((not change.passing.removed_table_missing, NotFound) ∷ []) s else Ok (with_table_gone change.database name t s)) table

-- the keys of the rows that list a table and describe its columns, and rows without those of some tables
abbrev pub own_key : List ℕ → List (List Value)
own_key name = (Str name ∷ []) ∷ []

abbrev pub own_columns : Database → List ℕ → List (List Value)
own_columns d name = column_keys d name (record { standing = stands.Kept; added = [] })

abbrev pub without_all : (List ℕ → List (List Value)) → List (List ℕ) → Rows → Rows
without_all keys_of [] rows = rows
without_all keys_of (name ∷ names) rows = without_all keys_of names (without_keys rows (keys_of name))

-- tables that went gave back exactly their cells, and each place that is still in use has kept its text
pub record Went (d : Database) (others : Uses) (names : List (List ℕ)) (before after : SchemaInHand) : Type 0 where
  pub balance : (n : ℕ) → room after.pool.places n + (uses_in_schema before n + cells_removed d names n) ≡ room before.pool.places n + uses_in_schema after n
  pub fewer : (n : ℕ) → uses_in_schema after n ≤ uses_in_schema before n
  pub kept : (n : ℕ) → 0 < uses_in_schema after n + others n → text_at after.pool.places n ≡ text_at before.pool.places n
  pub listed : after.listed ≡ without_all own_key names before.listed
  pub described : after.described ≡ without_all (own_columns d) names before.described

module _ (takes : TakenPlacesHoldTheirText) (gives : GivenBackTakesOne) (change : SchemaChange) (others : Uses) where
  fewer_counted : (s : SchemaInHand) → CountsSchema (λ n. 0 + others n) s → CountsSchema others s
  fewer_counted s counts = record { listed = counts.listed; described = counts.described; counts = λ n one. omega (arith, counts.counts n one); from_one = omega (arith, counts.from_one) }

  regrouped : (s : SchemaInHand) (name : List ℕ) (names : List (List ℕ)) → CountsSchema (λ n. cells_removed change.database (name ∷ names) n + others n) s
      → CountsSchema (λ n. count_by (λ m. m == n) (numbers_of_rows (system_rows change.database name)) + (cells_removed change.database names n + others n)) s
  regrouped s name names counts = record { listed = counts.listed; described = counts.described; counts = λ n one. omega (arith, counts.counts n one); from_one = omega (arith, counts.from_one) }

  pub removals : (table number : ℕ) (names : List (List ℕ)) (before : SchemaInHand) (stored : List Record) → SaySame change.by (map (listing_record Remove) names) stored
      → CanRemoveTables change.database before.tables names → CountsSchema (λ n. cells_removed change.database names n + others n) before
      → (after : SchemaInHand) × (in_turn_from table (table_record_applied change name_shapes) number before stored ≡ Ok after) × SchemaAfter others (with_tables_removed before.tables names) 0 before after
      × Went change.database others names before after
  removals table number [] before [] says can counts = (
    before,
    refl,
    record { tables = refl; counted = fewer_counted before counts; kept = λ n some. refl; longer = omega arith },
    record { balance = λ n. omega arith; fewer = λ n. omega arith; kept = λ n some. refl; listed = refl; described = refl },
  )
  removals table number [] before (q ∷ qs) says can counts = absurd cc
  removals table number (name ∷ names) before [] says can counts = absurd cc
  removals table number (name ∷ names) before (q ∷ qs) says can counts =
      let parts = same_first change.by (listing_record Remove name) (map (listing_record Remove) names) q qs says in
      let beside : Uses = λ n. cells_removed change.database names n + others n in
      let s = with_table_gone change.database name (record { standing = stands.Kept; added = [] }) before in
      let one = gone takes gives change.database beside name before (regrouped before name names counts) in
      let (balance, fewer, still) = gone_exactly takes gives change.database beside name before (regrouped before name names counts) in
      let (after, ran, are, went) = removals table (number + 1) names s qs parts.1 can.1 one.counted in (
        after,
        first_applied table number (table_record_applied change name_shapes) before s q qs (removed_by change q name parts.0 before can.0) ∙ ran,
        record { tables = are.tables; counted = are.counted; kept = λ n some. are.kept n some ∙ one.kept n (omega (arith, some)); longer = omega (arith, are.longer, one.longer) },
        record {
          balance = λ n. omega (arith, balance n, went.balance n, naming_cells (system_rows change.database name) n);
          fewer = λ n. omega (arith, fewer n, went.fewer n);
          kept = λ n some. went.kept n some ∙ still n (omega (arith, some, went.fewer n));
          listed = went.listed;
          described = went.described;
        },
      )

pub removing_records_are_applied : TakenPlacesHoldTheirText → GivenBackTakesOne → RemovingRecordsAreApplied
removing_records_are_applied takes gives change others before names stored table number says can counts =
    let (after, ran, are, went) = removals takes gives change others table number names before stored says can counts in (after, ran, are)
