-- The texts of the old package that are left, where a transform is made of it and of another: those of rows that the new
-- package has too.
use Rattle.std.proofs.Common.{◌≡◌, ℕ, ◌+◌, ◌-◌, ◌<◌, Bool, true, false, not, ◌&&◌, List, [], ◌∷◌, length, map, filter, drop, refl, sym, ap, subst, ◌∙◌, arith, append-nil}
use Rattle.std.specs.Prelude.{pos, Some, Ok, is_some}
use Rattle.std.specs.Cmp.{tied_itself}
use Rattle.std.specs.FinMap.{find}
use Rattle.std.specs.FinMap.Entries.{is_some-find}
use Rattle.std.specs.List.{AllByRecursion, flat_map, list_any}
use Rattle.std.specs.Ordering.{eq_by_cmp, is_eq}
use Rattle.std.proofs.lemmas.Bool.{and_parts}
use Rattle.msi_base.specs.Lists.{has_pair, list_cmp}
use Rattle.msi_base.proofs.BoolLemmas.{by_test, yes_is_no}
use Rattle.msi_base.proofs.ListLemmas.{all_dropped, all_joined, all_kept, all_weaker}
use Rattle.msi_base.proofs.OptionLemmas.{none_there}
use Rattle.msi_pool.specs.Pool.{Place}
use Rattle.msi_pool.specs.FirstFitLaws.{text_at}
use Rattle.msi_table_cells.specs.declared.cell.ValueRef.{ValueRef}
use Rattle.msi_table_cells.specs.CellValues.{row_values}
use Rattle.msi_table_cells.specs.KeyOrder.{key_of, same_key}
use Rattle.msi_table_values.specs.declared.value.Value.{Value}
use Rattle.msi_table_values.specs.declared.value.Value.TheVariants.{Int, Str}
use Rattle.msi_table_values.specs.Columns.{ColumnDef}
use Rattle.msi_table_values.specs.OrderLaws.{value_cmp-total}
use Rattle.msi_table_values.specs.Values.{value_cmp}
use Rattle.msi_database_schema.specs.Schema.{value_at}
use Rattle.msi_database_schema.specs.System.{columns_columns, columns_name, is_schema_table, tables_columns, tables_name}
use Rattle.msi_database_schema.proofs.AccountLemmas.{Uses, room}
use Rattle.msi_database_changes.specs.Database.{Database, has_table}
use Rattle.msi_database_changes.specs.KeySets.{keys_of_rows}
use Rattle.msi_database_changes.proofs.text_counts.RowsLemmas.{rows_uses}
use Rattle.msi_database_storage.specs.Kept.{Kept}
use Rattle.msi_transform.specs.Transforms.{TransformDef, records_for}
use Rattle.msi_transform_rows.specs.KeyOfRows.{key_cmp}
use Rattle.msi_transform_rows.specs.RowChanges.{Rows, by_key, cells_of}
use Rattle.msi_transform_rows.specs.declared.row.RowInHand.{RowInHand}
use Rattle.msi_transform_schema.specs.SchemaApplying.{schema_begun, system_rows}
use Rattle.msi_transform_schema.specs.SchemaChanges.{SchemaInHand, column_key, columns_in_hand}
use Rattle.msi_transform_schema.specs.declared.schema.Standing.TheVariants as stands
use Rattle.msi_transform_making.specs.Making.{Pair, ToldRecord, ToldRow, ToldRows, begin_alike, columns_before, columns_in_table, described_columns, describing_record, keeps_columns, made, names_beside, records_of_columns, same_row, told_names, told_row, told_rows, with_number_if}
use Rattle.msi_transform_laws.specs.CarriedOut.{IsTellable}
use Rattle.msi_transform_laws.specs.ExactPackages.{IsExact, IsInOrder, IsListed, NamesColumn, NamesTable}
use Rattle.msi_transform_laws.specs.RowsBegun.{HoldsStreams}
use Rattle.msi_transform_laws.specs.SchemaApplied.{CountsSchema}
use Rattle.msi_transform_laws.specs.SchemaMade.{TablesCanChange, cells_gone}
use Rattle.msi_transform_laws.specs.TableApplied.{CanHaveRecords}
use Rattle.msi_transform_laws.specs.TablesChanged.{TableOfRecords, cells_to_change}
use Rattle.msi_transform_laws.specs.TablesRemoved.{cells_removed}
use Rattle.msi_transform_laws.proofs.CarriedOutLemmas.{keys_total, same}
use Rattle.msi_transform_laws.proofs.ExactPackagesLemmas.{exact_parts, rows_in_use, unchanged, uses_of}
use Rattle.msi_transform_laws.proofs.FitPackagesLemmas.{no_changed_columns}
use Rattle.msi_transform_laws.proofs.GoodTextsLemmas.{AreGood, HoldsGood, IsGoodRow, IsGoodTold, at_found, each_told, keys_told, none_named_in, none_of_rows, rows_good, told_rows_good, told_were_good}
use Rattle.msi_transform_laws.proofs.ListedRowsLemmas.{all_by_key, among_keys, among_own, in_list, left_of_names, numbered_among, uses_in_list}
use Rattle.msi_transform_laws.proofs.ListedTablesLemmas.{exact_names}
use Rattle.msi_transform_laws.proofs.NamedSumsLemmas.{named_sum, sum_none}
use Rattle.msi_transform_laws.proofs.SchemaAppliedLemmas.{counts_from, uses_in_schema}
use Rattle.msi_transform_laws.proofs.SchemaMadeLemmas.{IsNamed, at_name, come_named, passes_among}
use Rattle.msi_transform_laws.proofs.TableChangedLemmas.{all_there, each_among, of_tables}
use Rattle.msi_transform_laws.proofs.TablesChangedLemmas.{all_in_transform, own_keys, sorted_by_key, no_rows_there, sorted_in_transform}
use Rattle.msi_transform_laws.proofs.TablesRemovedLemmas.{Went, own_columns, own_key, without_all}
use Rattle.msi_transform_laws.proofs.WithoutRecordsLemmas.{Stays, tables_without_records_stay}

not_true : (b : Bool) → not b ≡ true → b ≡ false
not_true true h = sym h
not_true false h = refl

not_false : (b : Bool) → not b ≡ false → b ≡ true
not_false true h = refl
not_false false h = sym h

-- THE TABLES OF THE TRANSFORM

at_entry : (P : List ℕ → Type 0) (m : List ℕ) (es : List TableOfRecords) → AllByRecursion (λ (e : TableOfRecords). P e.0) es → is_some (find list_cmp m es) ≡ true → P m
at_entry P m [] h found = yes_is_no false found refl
at_entry P m (e ∷ es) h found = by_test (eq_by_cmp list_cmp m e.0)
    (λ u. subst P (sym (exact_names m e.0 u)) h.0)
    (λ u. at_entry P m es h.1 (rw u at found))

pub new_in_transform : (p : Pair) (t : TransformDef) → made p ≡ Ok t → (m : List ℕ) → is_schema_table m ≡ false → is_some (find list_cmp m t.tables) ≡ true → has_table m p.new.database ≡ true
new_in_transform p t is m plain found =
    at_entry (λ name. is_schema_table name ≡ false → has_table name p.new.database ≡ true) m t.tables
    (all_in_transform p t is (λ name. is_schema_table name ≡ false → has_table name p.new.database ≡ true) (of_tables p (λ name. has_table name p.new.database ≡ true) (all_there p.new))) found plain

-- THE PARTS OF THE OLD PACKAGE

module _ (p : Pair) (t : TransformDef) (is : made p ≡ Ok t) (exact : IsExact p.old) (order : IsInOrder p.new) where
  -- the cells of the tables that aren't changed
  abbrev pub beside : Uses
  beside n = named_sum (unchanged p.old exact p.new.database order.has_tables order.has_columns t.tables (sorted_in_transform p t is) (new_in_transform p t is) n) p.old.database.tables

  pub all_parts : (n : ℕ) → room p.old.database.pool.places n ≡ uses_of p.old.database n tables_name + (uses_of p.old.database n columns_name + (cells_gone p n + (cells_to_change p.old.database t.tables n + beside n)))
  all_parts n = exact_parts p.old exact p.new.database order.has_tables order.has_columns t.tables (sorted_in_transform p t is) (new_in_transform p t is) n

  pub uses_begun : (n : ℕ) → uses_in_schema (schema_begun p.old.database) n ≡ uses_of p.old.database n tables_name + uses_of p.old.database n columns_name
  uses_begun n = omega (
    arith,
    uses_in_list tables_columns p.old.database.pool.places (system_rows p.old.database tables_name) n exact.order.own_tables,
    uses_in_list columns_columns p.old.database.pool.places (system_rows p.old.database columns_name) n exact.order.own_columns,
  )

  pub counts_begun : CountsSchema (λ n. cells_gone p n + (cells_to_change p.old.database t.tables n + beside n)) (schema_begun p.old.database)
  counts_begun = counts_from (λ n. cells_gone p n + (cells_to_change p.old.database t.tables n + beside n)) (schema_begun p.old.database)
      (sorted_by_key (in_list tables_columns p.old.database.pool.places (system_rows p.old.database tables_name))) (sorted_by_key (in_list columns_columns p.old.database.pool.places (system_rows p.old.database columns_name)))
      (λ n. omega (arith, all_parts n, uses_begun n))

module _ (p : Pair) (t : TransformDef) (is : made p ≡ Ok t) (can : CanHaveRecords p) (exact : IsExact p.old) (order : IsInOrder p.new) (good : List ℕ → Bool)
    (reads : (n : ℕ) → 0 < room p.new.database.pool.places n → good (text_at p.new.database.pool.places n) ≡ true) where
  abbrev old : Database
  old = p.old.database

  abbrev places : List Place
  places = p.old.database.pool.places

  abbrev Good : List ValueRef → Type 0
  Good row = IsGoodRow good p.old.database.pool.places row

  -- THE NEW PACKAGE'S TEXTS

  new_rows : (name : List ℕ) → AllByRecursion (IsGoodRow good p.new.database.pool.places) (system_rows p.new.database name)
  new_rows name = rows_good good p.new.database.pool.places (system_rows p.new.database name) (λ n some. reads n (omega (arith, some, rows_in_use p.new order name n)))

  pub new_told : (name : List ℕ) (added : ℕ) → AllByRecursion (IsGoodTold good) (told_rows p.new name added)
  new_told name added = told_rows_good good p.new name added (new_rows name)

  listed_by : (name : List ℕ) (rows : List (List ValueRef)) → AllByRecursion (IsGoodRow good p.new.database.pool.places) rows
      → list_any (same_row (Str name ∷ [])) (map (row_values p.new.database.pool.places) rows) ≡ true → good name ≡ true
  listed_by name [] h listed = yes_is_no false listed refl
  listed_by name (row ∷ rows) h listed = by_test (same_row (Str name ∷ []) (row_values p.new.database.pool.places row))
      (λ t. let g = subst (AreGood good) (sym (same (Str name ∷ []) (row_values p.new.database.pool.places row) t)) h.0 in g.0)
      (λ t. listed_by name rows h.1 (rw t at listed))

  pub good_name : (name : List ℕ) → IsNamed p name → good name ≡ true
  good_name name named = at_name (λ name. good name ≡ true) name (told_names p.new)
      (all_weaker (IsListed p.new) (λ name. good name ≡ true) (told_names p.new) (λ name listed. listed_by name (system_rows p.new.database tables_name) (new_rows tables_name) listed) order.listed) named

  pub come_good : TablesCanChange p → AllByRecursion (λ name. good name ≡ true) (names_beside p.new.database p.old.database)
  come_good adds = all_weaker (IsNamed p) (λ name. good name ≡ true) (names_beside p.new.database p.old.database) good_name
      (come_named p t is can adds (map (λ t. t.0) p.new.database.tables) (each_among (map (λ t. t.0) p.new.database.tables)))

  told_values_good : (es : ToldRows) → AllByRecursion (IsGoodTold good) es → AllByRecursion (AreGood good) (map (λ (e : List Value × ToldRow). e.1.values) es)
  told_values_good [] h = tt
  told_values_good (e ∷ es) h = (h.0, told_values_good es h.1)

  new_described : (name : List ℕ) → AllByRecursion (AreGood good) (described_columns p.new name)
  new_described name = all_kept (AreGood good) (λ row. eq_by_cmp value_cmp (value_at 0 row) (Str name)) (map (λ (e : List Value × ToldRow). e.1.values) (told_rows p.new columns_name 0))
      (told_values_good (told_rows p.new columns_name 0) (new_told columns_name 0))

  number_good : (kept : Bool) (row : List Value) → AreGood good row → AreGood good (with_number_if kept row)
  number_good kept [] h = h
  number_good kept (v ∷ []) h = h
  number_good true (v ∷ w ∷ row) h = h
  number_good false (v ∷ w ∷ row) h = (h.0, (refl, h.1.1))

  describing_good : (kept : Bool) (rows : List (List Value)) → AllByRecursion (AreGood good) rows → AllByRecursion (λ (r : ToldRecord). AreGood good r.values) (map (describing_record kept) rows)
  describing_good kept [] h = tt
  describing_good kept (row ∷ rows) h = (number_good kept row h.0, describing_good kept rows h.1)

  pub columns_good : (names : List (List ℕ)) → AllByRecursion (λ (r : ToldRecord). AreGood good r.values) (flat_map (records_of_columns p.old p.new) names)
  columns_good [] = tt
  columns_good (n ∷ ns) = all_joined (λ (r : ToldRecord). AreGood good r.values) (records_of_columns p.old p.new n) (flat_map (records_of_columns p.old p.new) ns)
      (describing_good (has_table n old) (drop (columns_before old n) (described_columns p.new n)) (all_dropped (AreGood good) (described_columns p.new n) (columns_before old n) (new_described n)))
      (columns_good ns)

  -- TABLES THAT ARE LEFT AS THEY ARE

  pub named_new : (m : List ℕ) → is_schema_table m ≡ false → has_table m p.new.database ≡ true → IsNamed p m
  named_new m plain there = passes_among (λ name. not (is_schema_table name)) m (map (λ t. t.0) p.new.database.tables) (sym (is_some-find list_cmp m p.new.database.tables) ∙ there) (ap not plain)

  pub kept_rows : (m : List ℕ) → is_schema_table m ≡ false → has_table m p.new.database ≡ true → is_some (find list_cmp m t.tables) ≡ false → has_table m old ≡ true → AllByRecursion Good (system_rows old m)
  kept_rows m plain there_too absent there =
      let named = named_new m plain there_too in
      let stay = at_name (Stays p t) m (told_names p.new) (tables_without_records_stay p t is can) named in
      let tellable = at_name (IsTellable p.old p.new) m (told_names p.new) can.tellable named in
      let added = length (columns_in_table p.new m) - columns_before old m in
      let same_told : told_rows p.old m added ≡ told_rows p.new m 0 = rw there at ((stay (none_there (records_for m t) absent)).0) in
      let streams = at_name (HoldsStreams p.old) m (told_names p.old) exact.order.streams
      (passes_among (λ name. not (is_schema_table name)) m (map (λ t. t.0) old.tables) (sym (is_some-find list_cmp m old.tables) ∙ there) (ap not plain)) in
      told_were_good good p.old m added (tellable.before there).0 streams
      (not_true (has_pair same_key (keys_of_rows places (columns_in_table p.old m) (system_rows old m))) (own_keys p t is m plain there))
      (subst (AllByRecursion (IsGoodTold good)) (sym same_told) (new_told m 0))

  -- `_Tables` AND `_Columns`

  abbrev gone : List (List ℕ)
  gone = names_beside p.old.database p.new.database

  among_gone : (m : List ℕ) → has_table m old ≡ true → has_table m p.new.database ≡ false → list_any (eq_by_cmp list_cmp m) gone ≡ true
  among_gone m there goes = passes_among (λ name. not (has_table name p.new.database)) m (map (λ t. t.0) old.tables) (sym (is_some-find list_cmp m old.tables) ∙ there) (ap not goes)

  -- a row of either that doesn't go with its table is good
  abbrev IsLeft : (List ℕ → List (List Value)) → List ColumnDef → List ValueRef → Type 0
  IsLeft keys columns row = among_keys keys gone (key_of columns (row_values places row)) ≡ false → Good row

  listed_left : (row : List ValueRef) → NamesTable p.old (row_values places row) → IsLeft own_key tables_columns row
  listed_left row names none =
      let key : key_of tables_columns (row_values places row) ≡ Str names.name ∷ [] = ap (key_of tables_columns) names.row_is in
      by_test (has_table names.name p.new.database)
      (λ there. subst (AreGood good) (sym names.row_is) (good_name names.name (named_new names.name names.plain there), tt))
      (λ goes.
      let own : list_any (λ k. same_key k (key_of tables_columns (row_values places row))) (own_key names.name) ≡ true =
      ap (λ (q : List Value). list_any (λ k. same_key k q) (own_key names.name)) key ∙ (rw (tied_itself keys_total (Str names.name ∷ [])) refl) in
      yes_is_no (among_keys own_key gone (key_of tables_columns (row_values places row)))
      (among_own own_key names.name gone (key_of tables_columns (row_values places row)) (among_gone names.name names.there goes) own) none)

  all_listed_left : (rows : List (List ValueRef)) → AllByRecursion (NamesTable p.old) (map (row_values places) rows) → AllByRecursion (IsLeft own_key tables_columns) rows
  all_listed_left [] h = tt
  all_listed_left (row ∷ rows) h = (listed_left row h.0, all_listed_left rows h.1)

  pub listed_rows : AllByRecursion (IsLeft own_key tables_columns) (system_rows old tables_name)
  listed_rows = all_listed_left (system_rows old tables_name) exact.order.tables

  -- the rows that describe the columns of a table that stays are among those of the new package
  alike_good : (rows others : List (List Value)) → begin_alike rows others ≡ true → AllByRecursion (AreGood good) others → AllByRecursion (AreGood good) rows
  alike_good [] others alike h = tt
  alike_good (row ∷ rows) [] alike h = yes_is_no false alike refl
  alike_good (row ∷ rows) (other ∷ others) alike h =
      let q = and_parts (same_row row other) (begin_alike rows others) alike in
      (subst (AreGood good) (sym (same row other q.0)) h.0, alike_good rows others q.1 h.1)

  old_described : (m : List ℕ) → IsNamed p m → has_table m old ≡ true → AllByRecursion (AreGood good) (described_columns p.old m)
  old_described m named there =
      let keeps = not_false (keeps_columns p.old p.new m) (rw there at (at_name (λ name. (has_table name old && not (keeps_columns p.old p.new name)) ≡ false) m (told_names p.new) (no_changed_columns p t is) named)) in
      let alike = (and_parts (begin_alike (described_columns p.old m) (described_columns p.new m)) _ keeps).0 in
      alike_good (described_columns p.old m) (described_columns p.new m) alike (new_described m)

  abbrev IsOf : List ℕ → List Value → Bool
  IsOf m row = eq_by_cmp value_cmp (value_at 0 row) (Str m)

  if_of : (m : List ℕ) (es : ToldRows) → AllByRecursion (AreGood good) (filter (IsOf m) (map (λ (e : List Value × ToldRow). e.1.values) es))
      → AllByRecursion (λ (e : List Value × ToldRow). IsOf m e.1.values ≡ true → AreGood good e.1.values) es
  if_of m [] h = tt
  if_of m (e ∷ es) h = by_test (IsOf m e.1.values)
      (λ u. let g = rw u at h in ((λ _. g.0), if_of m es g.1))
      (λ u. ((λ v. yes_is_no (IsOf m e.1.values) v u), if_of m es (rw u at h)))

  -- as such a row is told, it has its values
  module _ (row : List ValueRef) (names : NamesColumn p.old (row_values places row)) where
    abbrev told : List Value × ToldRow
    told = told_row p.old columns_name (columns_in_table p.old columns_name) 0 (row_values places row)

    abbrev four : List Value
    four = Str names.table ∷ Int (pos names.number) ∷ names.name ∷ names.bits ∷ []

    told_values_are : told.1.values ≡ row_values places row
    told_values_are = (λ i. (told_row p.old columns_name (exact.order.columns_are i) 0 (names.row_is i)).1.values) ∙ sym names.row_is

    described_good : find key_cmp told.0 (told_rows p.old columns_name 0) ≡ Some told.1 → has_table names.table p.new.database ≡ true → Good row
    described_good found there =
        let all = if_of names.table (told_rows p.old columns_name 0) (old_described names.table (named_new names.table names.plain there) names.there) in
        let of : IsOf names.table told.1.values ≡ true = ap (IsOf names.table) (told_values_are ∙ names.row_is) ∙ ap is_eq (tied_itself value_cmp-total (Str names.table)) in
        subst (AreGood good) told_values_are (at_found key_cmp keys_total (λ (r : ToldRow). IsOf names.table r.values ≡ true → AreGood good r.values) told.0 told.1 (told_rows p.old columns_name 0) found all of)

    described_left : find key_cmp told.0 (told_rows p.old columns_name 0) ≡ Some told.1 → IsLeft (own_columns old) columns_columns row
    described_left found none = by_test (has_table names.table p.new.database)
        (λ there. described_good found there)
        (λ goes.
        let key : key_of columns_columns (row_values places row) ≡ column_key names.table names.number = ap (key_of columns_columns) names.row_is in
        let many : length (columns_in_hand old names.table (record { standing = stands.Kept; added = [] })) ≡ length (columns_in_table p.old names.table) = ap (λ (l : List ColumnDef). length l) (append-nil (columns_in_table p.old names.table)) in
        let own : list_any (λ k. same_key k (key_of columns_columns (row_values places row))) (own_columns old names.table) ≡ true =
        ap (λ (q : List Value). list_any (λ k. same_key k q) (own_columns old names.table)) key
        ∙ numbered_among names.table names.number 1 (length (columns_in_hand old names.table (record { standing = stands.Kept; added = [] }))) (omega (arith, names.from_one)) (omega (arith, many, names.within)) in
        yes_is_no (among_keys (own_columns old) gone (key_of columns_columns (row_values places row)))
        (among_own (own_columns old) names.table gone (key_of columns_columns (row_values places row)) (among_gone names.table names.there goes) own) none)

  all_described_left : (rows : List (List ValueRef)) → AllByRecursion (NamesColumn p.old) (map (row_values places) rows)
      → AllByRecursion (λ (e : List Value × ToldRow). find key_cmp e.0 (told_rows p.old columns_name 0) ≡ Some e.1) (map (told_row p.old columns_name (columns_in_table p.old columns_name) 0) (map (row_values places) rows))
      → AllByRecursion (IsLeft (own_columns old) columns_columns) rows
  all_described_left [] h found = tt
  all_described_left (row ∷ rows) h found = (described_left row h.0 found.0, all_described_left rows h.1 found.1)

  pub described_rows : AllByRecursion (IsLeft (own_columns old) columns_columns) (system_rows old columns_name)
  described_rows =
      let rows = system_rows old columns_name in
      let columns = columns_in_table p.old columns_name in
      let apart : has_pair same_key (keys_of_rows places columns rows) ≡ false =
      ap (λ (cs : List ColumnDef). has_pair same_key (keys_of_rows places cs rows)) exact.order.columns_are ∙ not_true (has_pair same_key (keys_of_rows places columns_columns rows)) exact.order.own_columns in
      let told = map (told_row p.old columns_name columns 0) (map (row_values places) rows) in
      all_described_left rows exact.order.columns (each_told told (ap (λ (l : List (List Value)). has_pair same_key l) (keys_told p.old columns_name columns 0 rows) ∙ apart))

  -- TEXTS THAT ARE NOT GOOD

  module _ (n : ℕ) (bad : good (text_at places n) ≡ false) where
    no_uses_of : (m : List ℕ) → AllByRecursion Good (system_rows old m) → uses_of old n m ≡ 0
    no_uses_of m h = none_named_in good places n bad (system_rows old m) h

    none_beside : beside p t is exact order n ≡ 0
    none_beside = sum_none (unchanged p.old exact p.new.database order.has_tables order.has_columns t.tables (sorted_in_transform p t is) (new_in_transform p t is) n) none_of old.tables
      where
        none_of : (m : List ℕ) → unchanged p.old exact p.new.database order.has_tables order.has_columns t.tables (sorted_in_transform p t is) (new_in_transform p t is) n m ≡ 0
        none_of m = by_test (is_schema_table m)
            (λ s. rw s refl)
            (λ s. by_test (has_table m p.new.database)
            (λ there. by_test (is_some (find list_cmp m t.tables))
            (λ c. rw (s, there, c) refl)
            (λ c. by_test (has_table m old)
            (λ b. rw (s, there, c) (no_uses_of m (kept_rows m s there c b)))
            (λ b. rw (s, there, c) (ap (λ (rows : List (List ValueRef)). rows_uses rows n) (no_rows_there old m b)))))
            (λ goes. rw (s, goes) refl))

    -- the rows that are left of a list
    left_in_list : (keys : List ℕ → List (List Value)) (columns : List ColumnDef) (rows : List (List ValueRef)) → AllByRecursion (IsLeft keys columns) rows
        → rows_uses (cells_of (without_all keys gone (by_key (in_list columns places rows)))) n ≡ 0
    left_in_list keys columns rows h =
        none_of_rows good places n bad (without_all keys gone (by_key (in_list columns places rows)))
        (left_of_names (λ (e : List Value × RowInHand). Good e.1.cells) keys gone (by_key (in_list columns places rows))
        (all_by_key (λ (e : List Value × RowInHand). among_keys keys gone e.0 ≡ false → Good e.1.cells) (in_list columns places rows) (in_turn rows h)))
      where
        in_turn : (rows : List (List ValueRef)) → AllByRecursion (IsLeft keys columns) rows → AllByRecursion (λ (e : List Value × RowInHand). among_keys keys gone e.0 ≡ false → Good e.1.cells) (in_list columns places rows)
        in_turn [] h = tt
        in_turn (row ∷ rows) h = (h.0, in_turn rows h.1)

    none_in_schema : (mid : SchemaInHand) → Went old (λ n. cells_to_change old t.tables n + beside p t is exact order n) gone (schema_begun old) mid → uses_in_schema mid n ≡ 0
    none_in_schema mid went = omega (
      arith,
      ap (λ (rows : Rows). rows_uses (cells_of rows) n) went.listed,
      ap (λ (rows : Rows). rows_uses (cells_of rows) n) went.described,
      left_in_list own_key tables_columns (system_rows old tables_name) listed_rows,
      left_in_list (own_columns old) columns_columns (system_rows old columns_name) described_rows,
    )

    -- where no table goes
    none_in_lists : gone ≡ [] → uses_of old n tables_name + uses_of old n columns_name ≡ 0
    none_in_lists none = omega (
      arith,
      no_uses_of tables_name (all_weaker (IsLeft own_key tables_columns) Good (system_rows old tables_name) (λ row left. left (ap (λ (names : List (List ℕ)). among_keys own_key names (key_of tables_columns (row_values places row))) none)) listed_rows),
      no_uses_of columns_name (all_weaker (IsLeft (own_columns old) columns_columns) Good (system_rows old columns_name) (λ row left. left (ap (λ (names : List (List ℕ)). among_keys (own_columns old) names (key_of columns_columns (row_values places row))) none)) described_rows),
    )

  -- once the tables that go are gone, each place that counts more cells than those of the tables to change has a good text
  pub held_then : (mid : SchemaInHand) → Went old (λ n. cells_to_change old t.tables n + beside p t is exact order n) gone (schema_begun old) mid → HoldsGood good (cells_to_change old t.tables) mid.pool.places
  held_then mid went n more = by_test (good (text_at mid.pool.places n))
      (λ u. u)
      (λ bad.
      let total : room mid.pool.places n ≡ uses_in_schema mid n + (cells_to_change old t.tables n + beside p t is exact order n) = omega (arith, went.balance n, uses_begun p t is exact order n, all_parts p t is exact order n) in
      let same_text = went.kept n (omega (arith, more, total)) in
      let bad_before : good (text_at places n) ≡ false = ap good (sym same_text) ∙ bad in
      absurd (omega (arith, more, total, none_beside n bad_before, none_in_schema n bad_before mid went)))

  -- and so it is from the beginning on where none goes
  pub held_at_first : gone ≡ [] → HoldsGood good (cells_to_change old t.tables) places
  held_at_first none n more = by_test (good (text_at places n))
      (λ u. u)
      (λ bad.
      let nothing : cells_gone p n ≡ 0 = ap (λ (names : List (List ℕ)). cells_removed old names n) none in
      absurd (omega (arith, more, all_parts p t is exact order n, nothing, none_beside n bad, none_in_lists n bad none)))
