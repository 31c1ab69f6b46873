-- The rows of a new table break no rule, and describe it beside the others.
use Rattle.std.proofs.Common.{◌≡◌, ℕ, suc, ◌+◌, ◌<◌, Bool, true, false, List, [], ◌∷◌, ◌++◌, refl, sym, ap, ◌∙◌, Some, None, pos, ℤ, arith, inl, inr}
use Rattle.std.specs.Prelude.{◌&&◌, ◌||◌, not, Option, is_some, if◌then◌else◌, bytes_eq}
use Rattle.std.specs.List.{AllByRecursion, list_any}
use Rattle.std.specs.FinMap.{put, find as find_in}
use Rattle.std.specs.FinMap.Entries.{find-put, is_sorted-put}
use Rattle.std.specs.Cmp.{nat_cmp_total}
use Rattle.std.specs.Cmp.Lexicographic.{lists_total}
use Rattle.std.proofs.Math.Bool.{and-false}
use Rattle.std.proofs.lemmas.List.Elements.{filter-append}
use Rattle.std.proofs.lemmas.Bool.{or_parts, or_from, and_parts, false_from_ne_true, or_right, not-false}
use Rattle.msi_base.specs.Lists.{has_pair, list_cmp}
use Rattle.msi_table_values.specs.declared.value.Value.{Value}
use Rattle.msi_table_values.specs.declared.value.Value.TheVariants.{Int, Str}
use Rattle.msi_table_values.specs.Columns.{ColumnDef}
use Rattle.msi_table_values.specs.OrderLaws.{value_eq-Decides}
use Rattle.msi_database_schema.specs.Description as description
use Rattle.msi_database_schema.specs.Keys.{is_pool_name}
use Rattle.msi_database_schema.specs.System.{columns_columns, columns_name, is_schema_table, tables_columns, tables_name}
use Rattle.msi_table_values.specs.Values.{is_null}
use Rattle.msi_database_schema.specs.Schema.{text_of, SchemaRows, columns_of, counted, describes_column, has_null, lacks_value, listed_names, schema_of, share_key, text_at, value_at}
use Rattle.msi_database_schema.proofs.ColumnBackLemmas.{row_of_column}
use Rattle.msi_base.proofs.ListLemmas.{filter_all, list_any-map, In, all_at, all_from, all_joined, any_at, any_joined, no_pair_joined, none_pass, none_passes}
use Rattle.msi_base.proofs.BoolLemmas.{by_test, yes_is_no}
use Rattle.msi_database_schema.proofs.SchemaLemmas.{Described, Describes, NoFault, describes_from, is_listed, names_tie, schema_from, table_of}
use Rattle.msi_database_schema.proofs.OrderlessLemmas.{HasKinds, IsColumnRow, IsReordered, IsValidationRow, describes_reordered_too, is_counted, shared_two, table_same, texts_same}
use Rattle.msi_database_schema.proofs.AddedRowsLemmas.{all_about, none_about, IsNew, added, new_column_rows, new_columns, old_column_rows, old_columns, rows_from, same_text, pos_same}
use Rattle.msi_database_schema.proofs.ReadColumnLemmas.{flips}

-- what two rows with one key have in common
pub shared_first : (n : ℕ) (a b : List Value) → share_key (suc n) a b ≡ true → value_at 0 a ≡ value_at 0 b
shared_first n a b t = (value_eq-Decides (value_at 0 a) (value_at 0 b)).0 ((and_parts _ _ t).0)

pub shared_second : (a b : List Value) → share_key 2 a b ≡ true → value_at 1 a ≡ value_at 1 b
shared_second a b t = (value_eq-Decides (value_at 1 a) (value_at 1 b)).0 ((and_parts _ true ((and_parts _ _ t).1)).0)

third : {X : Type 0} (a b c : Bool) (x y z : Option X) → a ≡ false → b ≡ false → c ≡ true → (if a then x else if b then y else if c then z else None) ≡ z
third a b c x y z e f g = rw (e, f, g)

-- ---- the new rows alone

rows_full : (name : List ℕ) (k : ℕ) (columns : List ColumnDef) → has_null (rows_from name k columns) ≡ false
rows_full name k [] = refl
rows_full name k (c ∷ cs) = rows_full name (k + 1) cs

pub rows_kinds : (name : List ℕ) (k : ℕ) (columns : List ColumnDef) → AllByRecursion IsColumnRow (rows_from name k columns)
rows_kinds name k [] = tt
rows_kinds name k (c ∷ cs) = ((refl, refl), rows_kinds name (k + 1) cs)

pub validation_kinds : (name : List ℕ) (columns : List ColumnDef) → AllByRecursion IsValidationRow (description.validation_rows name columns)
validation_kinds name [] = tt
validation_kinds name (c ∷ cs) = ((refl, refl), validation_kinds name cs)

int_same : (m n : ℤ) → ◌≡◌ {A = Value} (Int m) (Int n) → m ≡ n
int_same m n e = cc

str_same : (a b : List ℕ) → ◌≡◌ {A = Value} (Str a) (Str b) → a ≡ b
str_same a b e = cc

later_number : (name : List ℕ) (n k : ℕ) (c : ColumnDef) (columns : List ColumnDef) → n < k → list_any (share_key 2 (row_of_column name n c)) (rows_from name k columns) ≡ false
later_number name n k c [] l = refl
later_number name n k c (d ∷ ds) l = or_from _ _
    (false_from_ne_true _ (λ t. let e : n ≡ k = pos_same n k (int_same (pos n) (pos k) (shared_second (row_of_column name n c) (row_of_column name k d) t)) in omega arith))
    (later_number name n (k + 1) c ds (omega arith))

numbers_once : (name : List ℕ) (k : ℕ) (columns : List ColumnDef) → has_pair (share_key 2) (rows_from name k columns) ≡ false
numbers_once name k [] = refl
numbers_once name k (c ∷ cs) = or_from _ _ (later_number name k (k + 1) c cs (omega arith)) (numbers_once name (k + 1) cs)

other_names : (name : List ℕ) (c : ColumnDef) (columns : List ColumnDef) → list_any (λ d. bytes_eq c.name d.name) columns ≡ false → list_any (share_key 2 (description.validation_row name c)) (description.validation_rows name columns) ≡ false
other_names name c [] e = refl
other_names name c (d ∷ ds) e = let g = or_parts (bytes_eq c.name d.name) (list_any (λ d. bytes_eq c.name d.name) ds) e in or_from _ _
    (false_from_ne_true _ (λ t. let same : c.name ≡ d.name = str_same c.name d.name (shared_second (description.validation_row name c) (description.validation_row name d) t) in
    yes_is_no (bytes_eq c.name d.name) (rw same (same_text d.name)) g.0))
    (other_names name c ds g.1)

columns_once : (name : List ℕ) (columns : List ColumnDef) → has_pair (λ c d. bytes_eq c.name d.name) columns ≡ false → has_pair (share_key 2) (description.validation_rows name columns) ≡ false
columns_once name [] e = refl
columns_once name (c ∷ cs) e = let g = or_parts (list_any (λ d. bytes_eq c.name d.name) cs) (has_pair (λ c d. bytes_eq c.name d.name) cs) e in or_from _ _ (other_names name c cs g.0) (columns_once name cs g.1)

no_stale : (s : SchemaRows) (name : List ℕ) (columns : List ColumnDef) → AllByRecursion (λ c. list_any (share_key 2 (description.validation_row name c)) s.validation ≡ false) columns
    → AllByRecursion (λ row. list_any (share_key 2 row) s.validation ≡ false) (description.validation_rows name columns)
no_stale s name [] a = tt
no_stale s name (c ∷ cs) a = (a.0, no_stale s name cs (a.1))

described_name : (name : List ℕ) (k : ℕ) (columns : List ColumnDef) (p : List Value → Bool) → list_any p (rows_from name k columns) ≡ true → (n : ℕ) × (c : ColumnDef) × In c columns × (p (row_of_column name n c) ≡ true)
described_name name k [] p t = cc
described_name name k (c ∷ cs) p t = by_test (p (row_of_column name k c)) (λ u. (k, c, inl refl, u)) (λ u. let (n, d, h, v) = described_name name (k + 1) cs p (rw u at t) in (n, d, inr h, v))

module _ (s : SchemaRows) (name : List ℕ) (columns : List ColumnDef) (sound : NoFault s) (kinds : HasKinds s) (new : IsNew s name columns) where
  abbrev now : SchemaRows
  now = added s name columns

  new_names : listed_names now ≡ name ∷ listed_names s
  new_names = rw (new.not_reserved) refl

  listed_now : (other : List ℕ) → is_listed now other ≡ (bytes_eq other name || is_listed s other)
  listed_now other = ap (list_any (bytes_eq other)) new_names

  still_listed : (other : List ℕ) → is_listed s other ≡ true → is_listed now other ≡ true
  still_listed other t = listed_now other ∙ or_right (bytes_eq other name) (is_listed s other) t

  kinds_now : HasKinds now
  kinds_now = record {
    columns = all_joined IsColumnRow (rows_from name 1 columns) s.columns (rows_kinds name 1 columns) kinds.columns;
    validation = all_joined IsValidationRow (description.validation_rows name columns) s.validation (validation_kinds name columns) kinds.validation;
  }

  -- a row of `_Validation` that was there is about no column of the new table
  not_about : (row : List Value) → In row s.validation → bytes_eq name (text_at 0 row) ≡ true → describes_column now row ≡ false
  not_about row h t = false_from_ne_true _ (λ u.
      let about : text_at 0 row ≡ name = sym (texts_same _ _ t) in
      let k = all_at IsValidationRow s.validation row kinds.validation h in
      let (n, c, inside, v) = described_name name 1 columns (λ c. bytes_eq (text_at 2 c) (text_at 1 row)) (rw (about, new_column_rows s name columns sound new) at u) in
      let own : c.name ≡ text_at 1 row = texts_same _ _ v in
      yes_is_no (list_any (share_key 2 (description.validation_row name c)) s.validation)
      (any_at (share_key 2 (description.validation_row name c)) s.validation row h (shared_two (description.validation_row name c) row (ap Str (sym about) ∙ sym k.0) (ap Str own ∙ sym k.1)))
      (all_at (λ c. list_any (share_key 2 (description.validation_row name c)) s.validation ≡ false) columns c new.no_stale_row inside))

  still_full : (row : List Value) → In row s.validation → lacks_value s row ≡ false → lacks_value now row ≡ false
  still_full row h e = by_test (bytes_eq name (text_at 0 row))
      (λ t. let g = or_parts _ _ e in or_from _ _ (g.0) (ap (λ b. b && is_null (value_at 2 row)) (not_about row h t)))
      (λ t. rw (old_column_rows s name columns sound new (text_at 0 row) t) e)

  new_full : (table : List ℕ) (cs : List ColumnDef) → list_any (lacks_value now) (description.validation_rows table cs) ≡ false
  new_full table [] = refl
  new_full table (c ∷ cs) = or_from _ _ (and-false (describes_column now (description.validation_row table c))) (new_full table cs)

  -- no table had the name
  no_such_table : list_any (share_key 1 (Str name ∷ [])) (counted s.tables) ≡ false
  no_such_table = none_pass (share_key 1 (Str name ∷ [])) (counted s.tables) (all_from (λ row. share_key 1 (Str name ∷ []) row ≡ false) (counted s.tables) (λ row h. false_from_ne_true _ (λ t.
      let same : name ≡ text_at 0 row = ap text_of (shared_first 0 (Str name ∷ []) row t) in
      yes_is_no (bytes_eq name (text_at 0 row)) (rw (← same) (same_text name))
      (all_at (λ r. bytes_eq name (text_at 0 r) ≡ false) (counted s.tables) row (none_passes (λ r. bytes_eq name (text_at 0 r)) (counted s.tables) (sym (list_any-map (bytes_eq name) (text_at 0) (counted s.tables)) ∙ new.not_listed)) h))))

  counted_now : counted now.columns ≡ rows_from name 1 columns ++ counted s.columns
  counted_now = filter-append is_counted (rows_from name 1 columns) s.columns
      ∙ ap (λ (l : List (List Value)). l ++ counted s.columns) (filter_all is_counted (rows_from name 1 columns) (all_about is_counted name (λ n c. rw (new.not_reserved) refl) 1 columns))

  old_listed : (row : List Value) → In row (counted s.columns) → not (is_listed s (text_at 0 row)) ≡ false
  old_listed row h = all_at (λ r. not (is_listed s (text_at 0 r)) ≡ false) (counted s.columns) row (none_passes (λ r. not (is_listed s (text_at 0 r))) (counted s.columns) sound.columns_listed) h

  none_shares : (n : ℕ) (c : ColumnDef) → list_any (share_key 2 (row_of_column name n c)) (counted s.columns) ≡ false
  none_shares n c = none_pass (share_key 2 (row_of_column name n c)) (counted s.columns) (all_from (λ row. share_key 2 (row_of_column name n c) row ≡ false) (counted s.columns) (λ row h. false_from_ne_true _ (λ t.
      let same : name ≡ text_at 0 row = ap text_of (shared_first 1 (row_of_column name n c) row t) in
      yes_is_no (not (is_listed s name)) (ap not new.not_listed) (ap (λ (l : List ℕ). not (is_listed s l)) same ∙ old_listed row h))))

  none_share : (k : ℕ) (cs : List ColumnDef) → AllByRecursion (λ row. list_any (share_key 2 row) (counted s.columns) ≡ false) (rows_from name k cs)
  none_share k [] = tt
  none_share k (c ∷ cs) = (none_shares k c, none_share (k + 1) cs)

  now_listed : (row : List Value) → In row (counted s.columns) → not (is_listed now (text_at 0 row)) ≡ false
  now_listed row h = ap not (still_listed (text_at 0 row) (not-false (is_listed s (text_at 0 row)) (old_listed row h)))

  name_listed : is_listed now name ≡ true
  name_listed = listed_now name ∙ rw (same_text name) refl

  abbrev unlisted : List Value → Bool
  unlisted row = not (is_listed now (text_at 0 row))

  sound_now : NoFault now
  sound_now = record {
    tables_full = sound.tables_full;
    columns_full = any_joined (list_any is_null) (rows_from name 1 columns) s.columns (rows_full name 1 columns) sound.columns_full;
    validation_full = any_joined (lacks_value now) (description.validation_rows name columns) s.validation (new_full name columns)
        (none_pass (lacks_value now) s.validation (all_from (λ row. lacks_value now row ≡ false) s.validation (λ row h. still_full row h (all_at (λ r. lacks_value s r ≡ false) s.validation row (none_passes (lacks_value s) s.validation sound.validation_full) h))));
    plain_names = ap (list_any is_pool_name) new_names ∙ or_from (is_pool_name name) _ new.not_pool sound.plain_names;
    tables_once = rw (new.not_reserved) (or_from _ _ no_such_table sound.tables_once);
    columns_once = ap (has_pair (share_key 2)) counted_now ∙ no_pair_joined (share_key 2) (rows_from name 1 columns) (counted s.columns) (numbers_once name 1 columns) sound.columns_once (none_share 1 columns);
    validation_once = no_pair_joined (share_key 2) (description.validation_rows name columns) s.validation (columns_once name columns new.names_once) sound.validation_once (no_stale s name columns new.no_stale_row);
    columns_listed = ap (list_any unlisted) counted_now ∙ any_joined unlisted (rows_from name 1 columns) (counted s.columns)
        (none_pass unlisted (rows_from name 1 columns) (none_about unlisted name (λ n c. ap not name_listed) 1 columns))
        (none_pass unlisted (counted s.columns) (all_from (λ row. unlisted row ≡ false) (counted s.columns) now_listed));
  }

  new_table : table_of now name ≡ Some columns
  new_table = let r = or_parts _ _ new.not_reserved in
      third (bytes_eq name tables_name) (bytes_eq name columns_name) (is_listed now name) _ _ (columns_of now name) (r.0) (r.1) name_listed ∙ new_columns s name columns sound new

  readable_now : (ts : Described) → Describes s ts → (other : List ℕ) → is_listed now other ≡ true → is_some (columns_of now other) ≡ true
  readable_now ts d other h = by_test (bytes_eq name other)
      (λ t. let same : name ≡ other = texts_same _ _ t in rw (← same) (ap is_some (new_columns s name columns sound new)))
      (λ t. ap is_some (old_columns s name columns sound new other t) ∙ d.readable other (sym (listed_now other ∙ rw (flips name other t) refl) ∙ h))

  found_now : (ts : Described) → Describes s ts → (other : List ℕ) → find_in list_cmp other (put list_cmp name columns ts) ≡ table_of now other
  found_now ts d other = find-put list_cmp (lists_total nat_cmp_total) other name columns ts ∙ rw (names_tie other name) (by_test (bytes_eq name other)
      (λ t. let same : name ≡ other = texts_same _ _ t in rw (← same) (ap (λ b. if b then Some columns else find_in list_cmp name ts) (same_text name) ∙ sym new_table))
      (λ t. let e = flips name other t in ap (λ b. if b then Some columns else find_in list_cmp other ts) e
      ∙ d.found other ∙ sym (table_same s now other (listed_now other ∙ ap (λ b. b || is_listed s other) e) (old_columns s name columns sound new other t))))

  -- the rows describe the new table beside those that were there
  pub describes_added : (ts : Described) → Describes s ts → Describes now (put list_cmp name columns ts)
  describes_added ts d = record {
    sound = sound_now;
    readable = readable_now ts d;
    in_order = is_sorted-put list_cmp (lists_total nat_cmp_total) name columns ts d.in_order;
    found = found_now ts d;
  }

-- rows of a new table among those that were there, in any order, describe the tables that they described and the new one
pub schema_added : (s u : SchemaRows) (name : List ℕ) (columns : List ColumnDef) (ts : Described) → HasKinds s → IsNew s name columns → IsReordered (added s name columns) u
    → schema_of s ≡ Some ts → schema_of u ≡ Some (put list_cmp name columns ts)
schema_added s u name columns ts kinds new same e =
    let d = describes_from s ts e in
    schema_from u (put list_cmp name columns ts) (describes_reordered_too (added s name columns) u same (kinds_now s name columns d.sound kinds new) (put list_cmp name columns ts)
    (describes_added s name columns d.sound kinds new ts d))

-- a name that no described table has is none of the two that are always there, and isn't listed
is_none : {X P : Type 0} (a b : Bool) (x y : X) (o : Option X) → (if a then Some x else if b then Some y else o) ≡ None → ((a || b) ≡ false → o ≡ None → P) → P
is_none true b x y o e f = cc
is_none false true x y o e f = cc
is_none false false x y o e f = f refl e

pub not_described : {P : Type 0} (s : SchemaRows) (name : List ℕ) (ts : Described) → schema_of s ≡ Some ts → find_in list_cmp name ts ≡ None → (is_schema_table name ≡ false → is_listed s name ≡ false → P) → P
not_described s name ts e none f =
    let d = describes_from s ts e in
    is_none (bytes_eq name tables_name) (bytes_eq name columns_name) tables_columns columns_columns (if is_listed s name then columns_of s name else None) (sym (d.found name) ∙ none)
    (λ free rest. f free (false_from_ne_true (is_listed s name) (λ t.
    yes_is_no (is_some (columns_of s name)) (d.readable name t) (ap is_some (ap (λ b. if b then columns_of s name else None) (sym t) ∙ rest)))))
