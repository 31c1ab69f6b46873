-- After a column was added, the rows of the database describe the tables that it has.
use Rattle.std.proofs.Common.{◌≡◌, ℕ, ◌+◌, Bool, true, false, List, [], ◌∷◌, ◌++◌, length, refl, sym, ap, ◌∙◌, subst, Some, None, pos}
use Rattle.std.specs.Prelude.{T, Option, option_map, is_some, map, if◌then◌else◌, bytes_eq, IsPermutation}
use Rattle.std.specs.List.{AllByRecursion, list_any}
use Rattle.std.specs.FinMap.{find, put}
use Rattle.std.specs.FinMap.Entries.{find-put, is_sorted}
use Rattle.std.specs.Ordering.{eq_by_cmp}
use Rattle.std.specs.Cmp.{nat_cmp_total}
use Rattle.std.specs.Cmp.Lexicographic.{lists_total}
use Rattle.std.proofs.lemmas.Bool.{false_from_ne_true, or_parts}
use Rattle.std.proofs.lemmas.List.Sorted.{IsPermutation-append_comm, IsPermutation-trans, IsPermutation-refl}
use Rattle.std.proofs.lemmas.Option.{same_Some}
use Rattle.msi_base.specs.Lists.{list_cmp}
use Rattle.msi_base.proofs.BoolLemmas.{yes_is_no}
use Rattle.msi_base.proofs.ListLemmas.{all_at, all_from, any_kept, list_any-map, none_pass, none_passes}
use Rattle.msi_pool.specs.FirstFitLaws.{TakenPlacesHoldTheirText, GivenBackTakesOne}
use Rattle.msi_table_values.specs.declared.value.Value.{Value}
use Rattle.msi_table_values.specs.declared.value.Value.TheVariants.{Int, Null, Str}
use Rattle.msi_table_values.specs.Columns.{ColumnDef, type_bits}
use Rattle.msi_table_cells.specs.KeyOrder.{key_of, same_key}
use Rattle.msi_table_cells.specs.TableCells.{TableCells}
use Rattle.msi_database_schema.specs.Schema.{counted, schema_of, share_key}
use Rattle.msi_database_schema.specs.Description.{validation_row}
use Rattle.msi_database_schema.specs.System.{columns_columns, columns_name, is_schema_table, tables_name, validation_columns, validation_name}
use Rattle.msi_database_schema.proofs.AddedLemmas.{shared_first, shared_second}
use Rattle.msi_database_schema.proofs.ColumnBackLemmas.{row_of_column}
use Rattle.msi_database_schema.proofs.FaultLemmas.{texts_flip}
use Rattle.msi_database_schema.proofs.OrderlessLemmas.{HasKinds, IsReordered, is_counted}
use Rattle.msi_database_schema.proofs.SchemaLemmas.{Described, describes_from}
use Rattle.msi_database_changes.specs.Database.{Database, are_alike, has_table}
use Rattle.msi_database_changes.specs.Changes.{Change, no_change}
use Rattle.msi_database_changes.specs.Laws.{rows_at}
use Rattle.msi_database_changes.proofs.steps.StoredLemmas.{WellFormed}
use Rattle.msi_database_changes.proofs.describing.DescribingLemmas.{AddsRows, alike_shown, describing, has_shown, keys_are, others_rows, rows_elsewhere, standard, validation_at}
use Rattle.msi_database_changes.proofs.describing.KindsKeptLemmas.{kinds_reordered}
use Rattle.msi_database_changes.proofs.describing.NewColumnLemmas.{IsNewColumn, described_there, kinds_now, lengthened, schema_lengthened}
use Rattle.msi_database_changes.proofs.describing.ShownTablesLemmas.{find_shown, inserted, put_shown, shown, shown_inserted}
use Rattle.msi_database_changes.proofs.describing.ShownTablesLemmas as steps
use Rattle.msi_database_changes.proofs.steps.RefusedLemmas.{front_fails}
use Rattle.msi_database_changes.proofs.table_changes.AcceptedTableLemmas.{accepted_keys, key_by_flags, key_itself, no_parts, no_stale_row}
use Rattle.msi_database_changes.proofs.table_changes.ColumnAddedLemmas.{Accepts, ColumnAdded, IsApart, accepted, apart_from, column_values, first_step, second_step, validation_values}

-- KEYS OF `_Columns`

columns_key : (v w : Value) (row : List Value) → key_of columns_columns (v ∷ w ∷ row) ≡ v ∷ w ∷ []
columns_key v w row = key_by_flags columns_columns (v ∷ w ∷ row)
    ∙ ap (λ (l : List Value). v ∷ w ∷ l) (no_parts (false ∷ false ∷ []) row (refl, (refl, tt)))

one_key : (name : List ℕ) (number : ℕ) (column : ColumnDef) (row : List Value) → share_key 2 (row_of_column name number column) row ≡ true
    → same_key (key_of columns_columns (row_of_column name number column)) (key_of columns_columns row) ≡ true
one_key name number column [] t = let e : Str name ≡ Null = shared_first 1 (row_of_column name number column) [] t in cc
one_key name number column (v ∷ []) t = let e : Int (pos number) ≡ Null = shared_second (row_of_column name number column) (v ∷ []) t in cc
one_key name number column (v ∷ w ∷ vs) t =
    let e : Str name ≡ v = shared_first 1 (row_of_column name number column) (v ∷ w ∷ vs) t in
    let f : Int (pos number) ≡ w = shared_second (row_of_column name number column) (v ∷ w ∷ vs) t in
    let same : key_of columns_columns (row_of_column name number column) ≡ key_of columns_columns (v ∷ w ∷ vs) = columns_key (Str name) (Int (pos number)) (Str column.name ∷ Int (pos (type_bits column)) ∷ []) ∙ (λ i. e i ∷ f i ∷ []) ∙ sym (columns_key v w vs) in
    ap (same_key (key_of columns_columns (row_of_column name number column))) (sym same) ∙ key_itself (key_of columns_columns (row_of_column name number column))

no_row_at : (rows : List (List Value)) (name : List ℕ) (number : ℕ) (column : ColumnDef)
    → list_any (same_key (key_of columns_columns (row_of_column name number column))) (map (key_of columns_columns) rows) ≡ false → list_any (share_key 2 (row_of_column name number column)) rows ≡ false
no_row_at rows name number column e =
    let new = row_of_column name number column in
    none_pass (share_key 2 new) rows (all_from (λ row. share_key 2 new row ≡ false) rows (λ row h. false_from_ne_true _ (λ t.
    yes_is_no _ (one_key name number column row t)
    (all_at (λ r. same_key (key_of columns_columns new) (key_of columns_columns r) ≡ false) rows row
    (none_passes (λ r. same_key (key_of columns_columns new) (key_of columns_columns r)) rows (sym (list_any-map (same_key (key_of columns_columns new)) (key_of columns_columns) rows) ∙ e)) h))))

new_first : {X : Type 0} (old new all : List X) → IsPermutation (old ++ new) all → IsPermutation (new ++ old) all
new_first old new all h = IsPermutation-trans (new ++ old) (old ++ new) all (IsPermutation-append_comm new old) h

some_either : {X : Type 0} (b : Bool) (x : X) (o : Option X) → is_some o ≡ true → is_some (if b then Some x else o) ≡ true
some_either true x o e = refl
some_either false x o e = e

module _ (takes : TakenPlacesHoldTheirText) (gives : GivenBackTakesOne) (d : Database) (name : List ℕ) (column : ColumnDef) (c : Change) (well : WellFormed d) (r : ColumnAdded d name column c)
    (before : schema_of (describing d) ≡ Some (shown d)) (kinds : HasKinds (describing d)) where
  abbrev ok : Accepts d name r.table column
  ok = accepted takes gives d name column c well r

  abbrev apart : IsApart name
  apart = apart_from name ok.free

  abbrev number : ℕ
  number = length r.table.columns + 1

  abbrev c_values : List (List Value)
  c_values = column_values name r.table column

  abbrev v_values : List (List Value)
  v_values = validation_values name column

  abbrev a1 : AddsRows columns_name c_values d r.first.database
  a1 = (first_step takes gives d name column c well r).adds

  abbrev a2 : AddsRows validation_name v_values r.first.database r.second.database
  a2 = (second_step takes gives d name column c well r).adds

  up : T (is_sorted list_cmp (shown d))
  up = (describes_from (describing d) (shown d) before).in_order

  same_first : shown r.first.database ≡ shown d
  same_first = shown_inserted columns_name c_values (no_change d) r.first up r.in_columns

  same_shown : shown r.second.database ≡ shown d
  same_shown = shown_inserted validation_name v_values r.first r.second (rw same_first up) r.in_validation ∙ same_first

  pub shown_now : shown c.database ≡ put list_cmp name (r.table.columns ++ column ∷ []) (shown d)
  shown_now = ap (λ (x : Change). shown x.database) (sym r.last) ∙ put_shown name _ r.second.database.tables ∙ ap (put list_cmp name (r.table.columns ++ column ∷ [])) same_shown

  own_shown : find list_cmp name (shown d) ≡ Some r.table.columns
  own_shown = find_shown name d.tables ∙ ap (option_map (λ t. t.columns)) r.at

  -- `_Columns` when its row was added, and `_Validation`
  into : steps.Inserted columns_name c_values (no_change d) r.first
  into = inserted columns_name c_values (no_change d) r.first r.in_columns

  into₂ : steps.Inserted validation_name v_values r.first r.second
  into₂ = inserted validation_name v_values r.first r.second r.in_validation

  columns_are : into.table.columns ≡ columns_columns
  columns_are = same_Some into.table.columns columns_columns (sym (find_shown columns_name d.tables ∙ ap (option_map (λ t. t.columns)) into.at)
      ∙ (describes_from (describing d) (shown d) before).found columns_name)

  no_row : list_any (share_key 2 (row_of_column name number column)) (counted (describing d).columns) ≡ false
  no_row =
      let keys = (accepted_keys d.pool.places into.table c_values into.accepted).0 in
      let held = subst (λ (cs : List ColumnDef). list_any (same_key (key_of cs (row_of_column name number column))) (map (key_of cs) (rows_at columns_name d)) ≡ false) columns_are
      (ap (list_any (same_key (key_of into.table.columns (row_of_column name number column)))) (sym (keys_are d columns_name into.table into.at)) ∙ keys) in
      any_kept (share_key 2 (row_of_column name number column)) is_counted (rows_at columns_name d) (no_row_at (rows_at columns_name d) name number column held)

  alike : are_alike into₂.table.columns validation_columns ≡ true
  alike = alike_shown d into₂.table.columns (standard d (rw ok.sound refl))
      (ap (find list_cmp validation_name) (sym same_first) ∙ find_shown validation_name r.first.database.tables ∙ ap (option_map (λ t. t.columns)) into₂.at)

  validation_before : rows_at validation_name r.first.database ≡ (describing d).validation
  validation_before = others_rows columns_name validation_name d r.first.database a1.others refl ∙ sym (validation_at d ok.validated)

  no_stale : list_any (share_key 2 (validation_row name column)) (describing d).validation ≡ false
  no_stale =
      let keys = accepted_keys r.first.database.pool.places into₂.table v_values into₂.accepted in
      let held = subst (λ (held : List (List Value)). AllByRecursion (λ k. list_any (same_key k) held ≡ false) (map (key_of into₂.table.columns) v_values))
      (keys_are r.first.database validation_name into₂.table into₂.at ∙ ap (map (key_of into₂.table.columns)) validation_before) keys in
      (no_stale_row into₂.table.columns (describing d).validation name (column ∷ []) alike held).0

  free : is_schema_table name ≡ false
  free = (or_parts (is_schema_table name) (bytes_eq name validation_name) ok.free).0

  new : IsNewColumn (describing d) name r.table.columns column
  new = described_there (describing d) name r.table.columns (shown d) before free own_shown (λ listed there. record {
    not_reserved = free;
    listed = listed;
    there = there;
    describable = ok.describable;
    other_name = ok.other_name;
    no_row = no_row;
    no_stale_row = no_stale;
  })

  -- the longer table is none of the three
  after : (other : List ℕ) → bytes_eq name other ≡ false → rows_at other c.database ≡ rows_at other r.second.database
  after other e = ap (λ (x : Change). rows_at other x.database) (sym r.last) ∙ rows_elsewhere name other _ r.second.database e

  pub validated_now : has_table validation_name c.database ≡ true
  validated_now = has_shown validation_name c.database ∙ ap (λ (ts : Described). is_some (find list_cmp validation_name ts)) shown_now
      ∙ ap is_some (find-put list_cmp (lists_total nat_cmp_total) validation_name name (r.table.columns ++ column ∷ []) (shown d))
      ∙ some_either (eq_by_cmp list_cmp validation_name name) (r.table.columns ++ column ∷ []) (find list_cmp validation_name (shown d)) (sym (has_shown validation_name d) ∙ ok.validated)

  reordered : IsReordered (lengthened (describing d) name number column) (describing c.database)
  reordered = record {
    tables = subst (IsPermutation (rows_at tables_name d)) (sym (after tables_name apart.tables ∙ others_rows validation_name tables_name r.first.database r.second.database a2.others refl
        ∙ others_rows columns_name tables_name d r.first.database a1.others refl)) (IsPermutation-refl (rows_at tables_name d));
    columns = subst (IsPermutation _) (sym (after columns_name apart.columns ∙ others_rows validation_name columns_name r.first.database r.second.database a2.others refl))
        (new_first (rows_at columns_name d) c_values (rows_at columns_name r.first.database) a1.own);
    validation = subst (λ (rows : List (List Value)). IsPermutation (v_values ++ rows) (describing c.database).validation) validation_before
        (subst (IsPermutation (v_values ++ rows_at validation_name r.first.database)) (sym (validation_at c.database validated_now ∙ after validation_name apart.validation))
        (new_first (rows_at validation_name r.first.database) v_values (rows_at validation_name r.second.database) a2.own));
  }

  -- so the rows describe the tables, and the one with the new column
  pub column_describes : schema_of (describing c.database) ≡ Some (shown c.database)
  column_describes = schema_lengthened (describing d) (describing c.database) name r.table.columns column (shown d) kinds new reordered before ∙ ap Some (sym shown_now)

  pub kinds_after : HasKinds (describing c.database)
  kinds_after = kinds_reordered (lengthened (describing d) name number column) (describing c.database) reordered
      (kinds_now (describing d) name r.table.columns column (describes_from (describing d) (shown d) before).sound kinds new)
