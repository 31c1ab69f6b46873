-- What `_Tables` and `_Columns` of an exact package list and describe, once the tables that go are gone: no table that comes, and no
-- column that does; and the places count just the cells that are left.
use Rattle.std.proofs.Common.{◌≡◌, ℕ, ◌+◌, ◌<◌, Bool, true, false, not, List, [], ◌∷◌, length, map, refl, sym, ap, subst, ◌∙◌, arith, append-nil}
use Rattle.std.specs.Prelude.{None, Ok, if◌then◌else◌}
use Rattle.std.specs.FinMap.{find}
use Rattle.std.specs.FinMap.Entries.{is_some-find}
use Rattle.std.specs.List.{AllByRecursion, list_any}
use Rattle.std.specs.Ordering.{eq_by_cmp}
use Rattle.msi_base.specs.Lists.{list_cmp}
use Rattle.msi_base.proofs.BoolLemmas.{by_test, yes_is_no}
use Rattle.msi_pool.specs.Pool.{Place}
use Rattle.msi_table_cells.specs.declared.cell.ValueRef.{ValueRef}
use Rattle.msi_table_cells.specs.CellValues.{row_values}
use Rattle.msi_table_cells.specs.KeyOrder.{key_of, same_key}
use Rattle.msi_table_values.specs.declared.value.Value.{Value}
use Rattle.msi_table_values.specs.declared.value.Value.TheVariants.{Str}
use Rattle.msi_table_values.specs.Columns.{ColumnDef}
use Rattle.msi_database_schema.specs.System.{columns_columns, columns_name, tables_columns, tables_name}
use Rattle.msi_database_changes.specs.Database.{Database, has_table}
use Rattle.msi_transform.specs.Transforms.{TransformDef}
use Rattle.msi_transform_rows.specs.KeyOfRows.{key_cmp}
use Rattle.msi_transform_rows.specs.RowChanges.{Rows, by_key}
use Rattle.msi_transform_rows.specs.declared.row.RowInHand.{RowInHand}
use Rattle.msi_transform_schema.specs.SchemaApplying.{schema_begun, system_rows}
use Rattle.msi_transform_schema.specs.SchemaChanges.{SchemaInHand, column_key, columns_in_hand}
use Rattle.msi_transform_schema.specs.declared.schema.Standing.TheVariants as stands
use Rattle.msi_transform_making.specs.Making.{Pair, columns_in_table, made, names_beside}
use Rattle.msi_transform_laws.specs.ExactPackages.{IsExact, IsInOrder, NamesColumn, NamesTable}
use Rattle.msi_transform_laws.specs.TablesChanged.{cells_to_change}
use Rattle.msi_transform_laws.proofs.CarriedOutLemmas.{same}
use Rattle.msi_transform_laws.proofs.ListedRowsLemmas.{all_by_key, among_keys, among_own, in_list, left_of_names, numbered_among}
use Rattle.msi_transform_laws.proofs.OldTextsLemmas.{all_parts, beside, uses_begun}
use Rattle.msi_transform_laws.proofs.SchemaAppliedLemmas.{IsAbsent, IsExactly, number_in_key, text_in_key}
use Rattle.msi_transform_laws.proofs.SchemaListsLemmas.{each_passing}
use Rattle.msi_transform_laws.proofs.SchemaMadeLemmas.{passes_among}
use Rattle.msi_transform_laws.proofs.TablesRemovedLemmas.{Went, own_columns, own_key, without_all}

not_true : (b : Bool) → not b ≡ true → b ≡ false
not_true true h = sym h
not_true false h = refl

none_at : (key : List Value) (rows : Rows) → AllByRecursion (λ (e : List Value × RowInHand). eq_by_cmp key_cmp key e.0 ≡ false) rows → find key_cmp key rows ≡ None
none_at key [] h = refl
none_at key (e ∷ es) h = rw h.0 (none_at key es h.1)

module _ (p : Pair) (t : TransformDef) (is : made p ≡ Ok t) (exact : IsExact p.old) (order : IsInOrder p.new) where
  abbrev old : Database
  old = p.old.database

  abbrev places : List Place
  places = p.old.database.pool.places

  abbrev gone : List (List ℕ)
  gone = names_beside p.old.database p.new.database

  among_gone : (m : List ℕ) → has_table m old ≡ true → has_table m p.new.database ≡ false → list_any (eq_by_cmp list_cmp m) gone ≡ true
  among_gone m there goes = passes_among (λ name. not (has_table name p.new.database)) m (map (λ t. t.0) old.tables) (sym (is_some-find list_cmp m old.tables) ∙ there) (ap not goes)

  -- a key that none of the rows that are left has
  abbrev IsApart : (List ℕ → List (List Value)) → List Value → List Value × RowInHand → Type 0
  IsApart keys key e = among_keys keys gone e.0 ≡ false → eq_by_cmp key_cmp key e.0 ≡ false

  none_left : (keys : List ℕ → List (List Value)) (key : List Value) (columns : List ColumnDef) (rows : List (List ValueRef)) → AllByRecursion (IsApart keys key) (in_list columns places rows)
      → find key_cmp key (without_all keys gone (by_key (in_list columns places rows))) ≡ None
  none_left keys key columns rows h =
      none_at key (without_all keys gone (by_key (in_list columns places rows)))
      (left_of_names (λ (e : List Value × RowInHand). eq_by_cmp key_cmp key e.0 ≡ false) keys gone (by_key (in_list columns places rows)) (all_by_key (IsApart keys key) (in_list columns places rows) h))

  -- no row lists a table that the package hasn't
  listed_apart : (name : List ℕ) → has_table name old ≡ false → (rows : List (List ValueRef)) → AllByRecursion (NamesTable p.old) (map (row_values places) rows)
      → AllByRecursion (IsApart own_key (Str name ∷ [])) (in_list tables_columns places rows)
  listed_apart name absent [] h = tt
  listed_apart name absent (row ∷ rows) h = (
    (λ _. by_test (eq_by_cmp key_cmp (Str name ∷ []) (key_of tables_columns (row_values places row)))
        (λ u.
        let it : name ≡ h.0.name = ap text_in_key (same (Str name ∷ []) (key_of tables_columns (row_values places row)) u ∙ ap (key_of tables_columns) h.0.row_is) in
        yes_is_no (has_table name old) (ap (λ (m : List ℕ). has_table m old) it ∙ h.0.there) absent)
        (λ u. u)),
    listed_apart name absent rows h.1,
  )

  all_absent : (mid : SchemaInHand) → Went old (λ n. cells_to_change old t.tables n + beside p t is exact order n) gone (schema_begun old) mid → (names : List (List ℕ)) → AllByRecursion (λ name. not (has_table name old) ≡ true) names
      → AllByRecursion (IsAbsent mid.listed) names
  all_absent mid went [] h = tt
  all_absent mid went (n ∷ ns) h = (
    ap (find key_cmp (Str n ∷ [])) went.listed ∙ none_left own_key (Str n ∷ []) tables_columns (system_rows old tables_name) (listed_apart n (not_true (has_table n old) h.0) (system_rows old tables_name) exact.order.tables),
    all_absent mid went ns h.1,
  )

  -- no row describes a column that its table hasn't
  abbrev most : List ℕ → ℕ
  most table = if has_table table p.new.database then length (columns_in_table p.old table) else 0

  module _ (table : List ℕ) (number : ℕ) (less : most table < number) where
    one_apart : (row : List ValueRef) → NamesColumn p.old (row_values places row) → among_keys (own_columns old) gone (key_of columns_columns (row_values places row)) ≡ false
        → eq_by_cmp key_cmp (column_key table number) (key_of columns_columns (row_values places row)) ≡ false
    one_apart row names none = by_test (eq_by_cmp key_cmp (column_key table number) (key_of columns_columns (row_values places row)))
        (λ u.
        let key : key_of columns_columns (row_values places row) ≡ column_key names.table names.number = ap (key_of columns_columns) names.row_is in
        let keys : column_key table number ≡ column_key names.table names.number = same (column_key table number) (key_of columns_columns (row_values places row)) u ∙ key in
        let it : table ≡ names.table = ap text_in_key keys in
        let numbers : number ≡ names.number = ap number_in_key keys in
        by_test (has_table table p.new.database)
        (λ b.
        let long : length (columns_in_table p.old table) ≡ length (columns_in_table p.old names.table) = ap (λ (m : List ℕ). length (columns_in_table p.old m)) it in
        let less_now : length (columns_in_table p.old table) < number = subst (λ (c : Bool). (if c then length (columns_in_table p.old table) else 0) < number) b less in
        absurd (omega (arith, less_now, long, numbers, names.within)))
        (λ b.
        let goes : has_table names.table p.new.database ≡ false = ap (λ (m : List ℕ). has_table m p.new.database) (sym it) ∙ b in
        let many : length (columns_in_hand old names.table (record { standing = stands.Kept; added = [] })) ≡ length (columns_in_table p.old names.table) = ap (λ (l : List ColumnDef). length l) (append-nil (columns_in_table p.old names.table)) in
        let own : list_any (λ k. same_key k (key_of columns_columns (row_values places row))) (own_columns old names.table) ≡ true =
        ap (λ (q : List Value). list_any (λ k. same_key k q) (own_columns old names.table)) key
        ∙ numbered_among names.table names.number 1 (length (columns_in_hand old names.table (record { standing = stands.Kept; added = [] }))) (omega (arith, names.from_one)) (omega (arith, many, names.within)) in
        yes_is_no (among_keys (own_columns old) gone (key_of columns_columns (row_values places row)))
        (among_own (own_columns old) names.table gone (key_of columns_columns (row_values places row)) (among_gone names.table names.there goes) own) none))
        (λ u. u)

    described_apart : (rows : List (List ValueRef)) → AllByRecursion (NamesColumn p.old) (map (row_values places) rows) → AllByRecursion (IsApart (own_columns old) (column_key table number)) (in_list columns_columns places rows)
    described_apart [] h = tt
    described_apart (row ∷ rows) h = (one_apart row h.0, described_apart rows h.1)

  pub left_exactly : (mid : SchemaInHand) → Went old (λ n. cells_to_change old t.tables n + beside p t is exact order n) gone (schema_begun old) mid
      → AllByRecursion (IsAbsent mid.listed) (names_beside p.new.database p.old.database) × ((table : List ℕ) (number : ℕ) → most table < number → find key_cmp (column_key table number) mid.described ≡ None)
      × IsExactly (λ n. cells_to_change old t.tables n + beside p t is exact order n) mid
  left_exactly mid went = (
    all_absent mid went (names_beside p.new.database p.old.database) (each_passing (λ name. not (has_table name old)) (map (λ t. t.0) p.new.database.tables)),
    (λ table number less. ap (find key_cmp (column_key table number)) went.described
        ∙ none_left (own_columns old) (column_key table number) columns_columns (system_rows old columns_name) (described_apart table number less (system_rows old columns_name) exact.order.columns)),
    (λ n. omega (arith, went.balance n, uses_begun p t is exact order n, all_parts p t is exact order n)),
  )
