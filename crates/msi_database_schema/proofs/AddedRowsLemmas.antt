-- What is looked up once the rows of a new table stand in front.
use Rattle.std.proofs.Common.{◌≡◌, ℕ, zero, suc, ◌+◌, Bool, true, false, List, [], ◌∷◌, ◌++◌, length, refl, sym, ap, ◌∙◌, Some, None, pos, arith, inl, inr}
use Rattle.std.specs.Prelude.{◌&&◌, not, Option, map, option_map, filter, find, option_and_then, ◌==◌, bytes_eq, slice_get}
use Rattle.std.specs.List.{AllByRecursion, list_any, enumerate_from}
use Rattle.std.specs.Ordering.{is_eq}
use Rattle.std.specs.Cmp.{int_cmp_total, tied_itself}
use Rattle.std.proofs.lemmas.List.{append-nil}
use Rattle.std.proofs.lemmas.List.Elements.{filter-append}
use Rattle.std.proofs.lemmas.Slice.Eq.{bytes_eq-Decides}
use Rattle.std.proofs.lemmas.Bool.{or_parts, and_parts, false_from_ne_true}
use Rattle.msi_base.specs.Lists.{has_pair}
use Rattle.msi_table_values.specs.declared.value.Value.{Value}
use Rattle.msi_table_values.specs.declared.value.Value.TheVariants.{Str}
use Rattle.msi_table_values.specs.Columns.{ColumnDef}
use Rattle.msi_database_schema.specs.Keys.{is_pool_name}
use Rattle.msi_database_schema.specs.System.{is_schema_table}
use Rattle.msi_database_schema.specs.Description as description
use Rattle.msi_database_schema.specs.Schema.{SchemaRows, column_of_row, column_rows, columns_of, has_number, is_about, share_key, text_at, validation_row}
use Rattle.msi_database_schema.proofs.ColumnBackLemmas.{IsDescribable, column_back, row_of_column}
use Rattle.msi_base.proofs.ListLemmas.{In, In-slice_get, all_at, all_from, each_present, filter_all, filter_none, find_back, find_front, none_passes, list_any-filter}
use Rattle.msi_base.proofs.BoolLemmas.{yes_is_no}
use Rattle.msi_database_schema.proofs.SchemaLemmas.{NoFault, is_listed}
use Rattle.msi_database_schema.proofs.OrderlessLemmas.{columns_same, filter-filter, is_counted, number_is, texts_same, validates}

-- the rows with those of a new table in front
abbrev pub added : SchemaRows → List ℕ → List ColumnDef → SchemaRows
added s name columns = record {
  tables = (Str name ∷ []) ∷ s.tables;
  columns = description.column_rows name columns ++ s.columns;
  validation = description.validation_rows name columns ++ s.validation;
}

-- a table that rows don't describe yet, and that can be described
pub record IsNew (s : SchemaRows) (name : List ℕ) (columns : List ColumnDef) : Type 0 where
  pub not_listed : is_listed s name ≡ false
  pub not_reserved : is_schema_table name ≡ false
  pub not_pool : is_pool_name name ≡ false
  pub some_column : (length columns == 0) ≡ false
  pub describable : AllByRecursion IsDescribable columns
  pub names_once : has_pair (λ c d. bytes_eq c.name d.name) columns ≡ false
  pub no_stale_row : AllByRecursion (λ c. list_any (share_key 2 (description.validation_row name c)) s.validation ≡ false) columns

pub same_text : (a : List ℕ) → bytes_eq a a ≡ true
same_text a = (bytes_eq-Decides a a).1 refl

-- ---- rows of columns by their numbers

abbrev pub rows_from : List ℕ → ℕ → List ColumnDef → List (List Value)
rows_from name k columns = map (λ e. row_of_column name e.0 e.1) (enumerate_from k columns)

pub has_own_number : (name : List ℕ) (k : ℕ) (c : ColumnDef) → has_number k (row_of_column name k c) ≡ true
has_own_number name k c = ap is_eq (tied_itself int_cmp_total (pos k))

pub pos_same : (m n : ℕ) → pos m ≡ pos n → m ≡ n
pos_same m n e = cc

pub no_other_number : (name : List ℕ) (k n : ℕ) (c : ColumnDef) → (k ≡ n → ⊥) → has_number n (row_of_column name k c) ≡ false
no_other_number name k n c d = false_from_ne_true _ (λ t. d (pos_same k n (number_is (pos k) (pos n) t)))

numbered_from : (name : List ℕ) (k : ℕ) (columns : List ColumnDef) (i n : ℕ) → n ≡ k + i → find (has_number n) (rows_from name k columns) ≡ option_map (row_of_column name n) (slice_get columns i)
numbered_from name k [] i n e = refl
numbered_from name k (c ∷ cs) zero n e = let same : k ≡ n = omega arith in rw (← same) (rw (has_own_number name k c) refl)
numbered_from name k (c ∷ cs) (suc i) n e = rw (no_other_number name k n c (λ (h : k ≡ n). omega arith)) (numbered_from name (k + 1) cs i n (omega arith))

pub all_about : (p : List Value → Bool) (name : List ℕ) → ((n : ℕ) (c : ColumnDef) → p (row_of_column name n c) ≡ true) → (k : ℕ) (columns : List ColumnDef) → AllByRecursion (λ row. p row ≡ true) (rows_from name k columns)
all_about p name h k [] = tt
all_about p name h k (c ∷ cs) = (h k c, all_about p name h (k + 1) cs)

pub none_about : (p : List Value → Bool) (name : List ℕ) → ((n : ℕ) (c : ColumnDef) → p (row_of_column name n c) ≡ false) → (k : ℕ) (columns : List ColumnDef) → AllByRecursion (λ row. p row ≡ false) (rows_from name k columns)
none_about p name h k [] = tt
none_about p name h k (c ∷ cs) = (h k c, none_about p name h (k + 1) cs)

rows_as_many : (name : List ℕ) (k : ℕ) (columns : List ColumnDef) → length (rows_from name k columns) ≡ length columns
rows_as_many name k [] = refl
rows_as_many name k (c ∷ cs) = ap suc (rows_as_many name (k + 1) cs)

-- ---- rows of `_Validation` by their columns

found_row : (name : List ℕ) (columns : List ColumnDef) (c : ColumnDef) → has_pair (λ c d. bytes_eq c.name d.name) columns ≡ false → In c columns
    → find (validates name c.name) (description.validation_rows name columns) ≡ Some (description.validation_row name c)
found_row name [] c d h = absurd h
found_row name (x ∷ xs) c d (inl e) = rw (e, same_text name, same_text c.name) refl
found_row name (x ∷ xs) c d (inr h) =
    let g = or_parts (list_any (λ y. bytes_eq x.name y.name) xs) (has_pair (λ c d. bytes_eq c.name d.name) xs) d in
    rw (same_text name, all_at (λ y. bytes_eq x.name y.name ≡ false) xs c (none_passes (λ y. bytes_eq x.name y.name) xs g.0) h) (found_row name xs c g.1 h)

pub none_validates : (name other column : List ℕ) (columns : List ColumnDef) → bytes_eq name other ≡ false → list_any (validates other column) (description.validation_rows name columns) ≡ false
none_validates name other column [] d = refl
none_validates name other column (c ∷ cs) d = rw d (none_validates name other column cs d)

module _ (s : SchemaRows) (name : List ℕ) (columns : List ColumnDef) (sound : NoFault s) (new : IsNew s name columns) where
  -- no row was about the new table
  pub none_before : AllByRecursion (λ row. (is_counted row && is_about name row) ≡ false) s.columns
  none_before = all_from (λ row. (is_counted row && is_about name row) ≡ false) s.columns (λ row h. false_from_ne_true _ (λ t.
      let p = and_parts _ _ t in
      let listed : (is_counted row && not (is_listed s (text_at 0 row))) ≡ false = all_at (λ r. (is_counted r && not (is_listed s (text_at 0 r))) ≡ false) s.columns row
      (none_passes (λ r. is_counted r && not (is_listed s (text_at 0 r))) s.columns (sym (list_any-filter (λ r. not (is_listed s (text_at 0 r))) is_counted s.columns) ∙ sound.columns_listed)) h in
      let same : text_at 0 row ≡ name = texts_same _ _ p.1 in
      yes_is_no _ (rw (p.0, same, new.not_listed) refl) listed))

  pub new_column_rows : column_rows (added s name columns) name ≡ description.column_rows name columns
  new_column_rows = filter-filter (is_about name) is_counted (description.column_rows name columns ++ s.columns)
      ∙ filter-append (λ row. is_counted row && is_about name row) (description.column_rows name columns) s.columns
      ∙ (λ i. filter_all (λ row. is_counted row && is_about name row) (rows_from name 1 columns) (all_about (λ row. is_counted row && is_about name row) name (λ n c. rw (new.not_reserved, same_text name) refl) 1 columns) i
      ++ filter_none (λ row. is_counted row && is_about name row) s.columns none_before i)
      ∙ append-nil (description.column_rows name columns)

  pub old_column_rows : (other : List ℕ) → bytes_eq name other ≡ false → column_rows (added s name columns) other ≡ column_rows s other
  old_column_rows other d = filter-filter (is_about other) is_counted (description.column_rows name columns ++ s.columns)
      ∙ filter-append (λ row. is_counted row && is_about other row) (description.column_rows name columns) s.columns
      ∙ ap (λ (l : List (List Value)). l ++ filter (λ row. is_counted row && is_about other row) s.columns) (filter_none (λ row. is_counted row && is_about other row) (rows_from name 1 columns) (none_about (λ row. is_counted row && is_about other row) name (λ n c. rw (new.not_reserved, d) refl) 1 columns))
      ∙ sym (filter-filter (is_about other) is_counted s.columns)

  pub old_validation_row : (other column : List ℕ) → bytes_eq name other ≡ false → validation_row (added s name columns) other column ≡ validation_row s other column
  old_validation_row other column d = find_back (validates other column) (description.validation_rows name columns) s.validation (none_validates name other column columns d)

  new_validation_row : (c : ColumnDef) → In c columns → validation_row (added s name columns) name c.name ≡ Some (description.validation_row name c)
  new_validation_row c h = find_front (validates name c.name) (description.validation_rows name columns) s.validation (description.validation_row name c) (found_row name columns c new.names_once h)

  -- the other tables are as they were
  pub old_columns : (other : List ℕ) → bytes_eq name other ≡ false → columns_of (added s name columns) other ≡ columns_of s other
  old_columns other d = columns_same s (added s name columns) other (ap length (old_column_rows other d)) (λ column. old_validation_row other column d) (λ number. ap (find (has_number number)) (old_column_rows other d))

  column_at : (i n : ℕ) (o : Option ColumnDef) → slice_get columns i ≡ o → option_and_then (column_of_row (added s name columns) name) (option_map (row_of_column name n) o) ≡ o
  column_at i n None e = refl
  column_at i n (Some c) e = let h = In-slice_get columns i c e in column_back (added s name columns) name n c (all_at IsDescribable columns c new.describable h) (new_validation_row c h)

  -- the new one has its columns
  pub new_columns : columns_of (added s name columns) name ≡ Some columns
  new_columns = rw (new_column_rows, rows_as_many name 1 columns, new.some_column)
      (each_present (λ i. option_and_then (column_of_row (added s name columns) name) (find (has_number (i + 1)) (description.column_rows name columns))) columns 0
      (λ i j e. ap (option_and_then (column_of_row (added s name columns) name)) (numbered_from name 1 columns i (j + 1) (omega arith)) ∙ column_at i (j + 1) (slice_get columns i) refl))
