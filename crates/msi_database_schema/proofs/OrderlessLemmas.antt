-- A schema doesn't depend on the order of the rows.
use Rattle.std.proofs.Common.{◌≡◌, ℕ, ◌+◌, cond, Bool, true, false, List, [], ◌∷◌, length, refl, sym, ap, ◌∙◌, Some, None, ℤ}
use Rattle.std.specs.Prelude.{◌&&◌, ◌||◌, not, Option, option_map, is_some, filter, find, option_and_then, if◌then◌else◌, ◌==◌, bytes_eq, IsPermutation, count_by}
use Rattle.std.specs.List.{AllByRecursion, list_any, list_all}
use Rattle.std.specs.Ordering.{eq_by_cmp, int_cmp, is_eq}
use Rattle.std.specs.Cmp.{ranked_equal, int_ranked}
use Rattle.std.proofs.lemmas.List.Sorted.{list_any-IsPermutation, sum_by-IsPermutation}
use Rattle.std.proofs.lemmas.List.Sums.{length-filter}
use Rattle.std.proofs.lemmas.Slice.Eq.{bytes_eq-Decides}
use Rattle.std.proofs.lemmas.Bool.{and_parts, and_from}
use Rattle.std.proofs.lemmas.Bool.Decides.{same_from_decides}
use Rattle.msi_base.specs.Lists.{all_present, has_pair, tabulated}
use Rattle.msi_table_values.specs.declared.value.Value.{Value}
use Rattle.msi_table_values.specs.declared.value.Value.TheVariants.{Int, Str}
use Rattle.msi_table_values.specs.Values.{value_cmp, is_null}
use Rattle.msi_table_values.specs.OrderLaws.{value_eq-Decides}
use Rattle.msi_table_values.specs.Columns.{ColumnDef, begun_column, column_of_bits}
use Rattle.msi_database_schema.specs.Keys.{is_pool_name}
use Rattle.msi_database_schema.specs.System.{columns_columns, columns_name, is_schema_table, tables_columns, tables_name}
use Rattle.msi_database_schema.specs.Schema.{SchemaRows, bits_in, column_rows, columns_of, counted, described}
use Rattle.msi_database_schema.specs.Schema.{describes_column, has_number, is_about, lacks_value, listed_names}
use Rattle.msi_database_schema.specs.Schema.{number_of, numbered_row, share_key, text_at, validation_row, value_at}
use Rattle.msi_base.proofs.ListLemmas.{find-filter, find_permuted, has_pair-filter, list_any-filter, list_any-map}
use Rattle.msi_base.proofs.ListLemmas.{list_any_same, no_pair_permuted, no_pair_weaker}
use Rattle.msi_base.proofs.BoolLemmas.{by_test}
use Rattle.msi_database_schema.proofs.SchemaLemmas.{Described, Describes, NoFault, is_listed, table_of}

-- ---- kinds of the values that tell rows apart, as the columns of the three tables ask

abbrev pub StartsWithText : List Value → Type 0
StartsWithText row = value_at 0 row ≡ Str (text_at 0 row)

abbrev pub IsColumnRow : List Value → Type 0
IsColumnRow row = StartsWithText row × (value_at 1 row ≡ Int (number_of (value_at 1 row)))

abbrev pub IsValidationRow : List Value → Type 0
IsValidationRow row = StartsWithText row × (value_at 1 row ≡ Str (text_at 1 row))

pub record HasKinds (s : SchemaRows) : Type 0 where
  pub columns : AllByRecursion IsColumnRow s.columns
  pub validation : AllByRecursion IsValidationRow s.validation

-- ---- keys

value_flips : (v w : Value) → eq_by_cmp value_cmp v w ≡ eq_by_cmp value_cmp w v
value_flips v w = same_from_decides _ _ (value_eq-Decides v w) (let d = value_eq-Decides w v in (λ t. sym (d.0 t), λ e. d.1 (sym e)))

pub share_flips : (n : ℕ) (a b : List Value) → share_key n a b ≡ share_key n b a
share_flips n a b = λ i. list_all (λ same. same) (tabulated n (λ j. value_flips (value_at j a) (value_at j b) i))

pub shared_two : (a b : List Value) → value_at 0 a ≡ value_at 0 b → value_at 1 a ≡ value_at 1 b → share_key 2 a b ≡ true
shared_two a b e f = and_from _ _ ((value_eq-Decides (value_at 0 a) (value_at 0 b)).1 e) (and_from _ true ((value_eq-Decides (value_at 1 a) (value_at 1 b)).1 f) refl)

pub number_is : (n m : ℤ) → is_eq (int_cmp n m) ≡ true → n ≡ m
number_is n m e = (ranked_equal n m (int_cmp n m) (int_ranked n m (int_cmp n m) refl)).0 e

pub texts_same : (a b : List ℕ) → bytes_eq a b ≡ true → a ≡ b
texts_same a b e = (bytes_eq-Decides a b).0 e

-- ---- look-ups in the whole lists

abbrev pub is_counted : List Value → Bool
is_counted row = not (is_schema_table (text_at 0 row))

abbrev pub is_numbered : List ℕ → ℕ → List Value → Bool
is_numbered table number row = is_counted row && (is_about table row && has_number number row)

abbrev pub validates : List ℕ → List ℕ → List Value → Bool
validates table column row = is_about table row && bytes_eq (text_at 1 row) column

pub numbered_is : (s : SchemaRows) (table : List ℕ) (number : ℕ) → numbered_row s table number ≡ find (is_numbered table number) s.columns
numbered_is s table number = find-filter (has_number number) (is_about table) (counted s.columns) ∙ find-filter (λ row. is_about table row && has_number number row) is_counted s.columns

pub any_column_is : (s : SchemaRows) (p : List Value → Bool) (table : List ℕ) → list_any p (column_rows s table) ≡ list_any (λ row. is_counted row && (is_about table row && p row)) s.columns
any_column_is s p table = list_any-filter p (is_about table) (counted s.columns) ∙ list_any-filter (λ row. is_about table row && p row) is_counted s.columns

pub listed_is : (s : SchemaRows) (p : List ℕ → Bool) → list_any p (listed_names s) ≡ list_any (λ row. is_counted row && p (text_at 0 row)) s.tables
listed_is s p = list_any-map p (text_at 0) (counted s.tables) ∙ list_any-filter (λ row. p (text_at 0 row)) is_counted s.tables

-- at most one row of `_Columns` has a number of a table, and at most one of `_Validation` is about a column
pub one_numbered : (s : SchemaRows) → NoFault s → HasKinds s → (table : List ℕ) (number : ℕ) → has_pair (λ a b. is_numbered table number a && is_numbered table number b) s.columns ≡ false
one_numbered s n k table number = no_pair_weaker IsColumnRow (λ a b. (is_counted a && is_counted b) && share_key 2 a b) (λ a b. is_numbered table number a && is_numbered table number b)
    (λ a b ka kb t.
    let p = and_parts _ _ t in
    let a1 = and_parts _ _ p.0 in let a2 = and_parts _ _ a1.1 in
    let b1 = and_parts _ _ p.1 in let b2 = and_parts _ _ b1.1 in
    let texts : text_at 0 a ≡ text_at 0 b = texts_same _ _ a2.0 ∙ sym (texts_same _ _ b2.0) in
    let numbers : number_of (value_at 1 a) ≡ number_of (value_at 1 b) = number_is _ _ a2.1 ∙ sym (number_is _ _ b2.1) in
    and_from _ _ (and_from _ _ a1.0 b1.0) (shared_two a b (ka.0 ∙ ap Str texts ∙ sym kb.0) (ka.1 ∙ ap Int numbers ∙ sym kb.1)))
    s.columns k.columns (sym (has_pair-filter (share_key 2) is_counted s.columns) ∙ n.columns_once)

pub one_validates : (s : SchemaRows) → NoFault s → HasKinds s → (table column : List ℕ) → has_pair (λ a b. validates table column a && validates table column b) s.validation ≡ false
one_validates s n k table column = no_pair_weaker IsValidationRow (share_key 2) (λ a b. validates table column a && validates table column b)
    (λ a b ka kb t.
    let p = and_parts _ _ t in let f = and_parts _ _ p.0 in let g = and_parts _ _ p.1 in
    let tables : text_at 0 a ≡ text_at 0 b = texts_same _ _ f.0 ∙ sym (texts_same _ _ g.0) in
    let columns : text_at 1 a ≡ text_at 1 b = texts_same _ _ f.1 ∙ sym (texts_same _ _ g.1) in
    shared_two a b (ka.0 ∙ ap Str tables ∙ sym kb.0) (ka.1 ∙ ap Str columns ∙ sym kb.1))
    s.validation k.validation n.validation_once

-- ---- a table's columns by what is looked up

abbrev pub from_lookups : ℕ → (List ℕ → Option (List Value)) → (ℕ → Option (List Value)) → Option (List ColumnDef)
from_lookups n validation numbered = if n == 0 then None
    else all_present (tabulated n (λ i. option_and_then (λ row. option_map (described (validation (text_at 2 row))) (column_of_bits (begun_column (text_at 2 row)) (bits_in row))) (numbered (i + 1))))

pub columns_same : (s u : SchemaRows) (table : List ℕ) → length (column_rows u table) ≡ length (column_rows s table) → ((name : List ℕ) → validation_row u table name ≡ validation_row s table name)
    → ((number : ℕ) → numbered_row u table number ≡ numbered_row s table number) → columns_of u table ≡ columns_of s table
columns_same s u table l v n = λ i. from_lookups (l i) (λ name. v name i) (λ number. n number i)

-- ---- the same rows in another order

pub record IsReordered (s u : SchemaRows) : Type 0 where
  pub tables : IsPermutation s.tables u.tables
  pub columns : IsPermutation s.columns u.columns
  pub validation : IsPermutation s.validation u.validation

pub filter-filter : {X : Type 0} (p q : X → Bool) (xs : List X) → filter p (filter q xs) ≡ filter (λ x. q x && p x) xs
filter-filter p q [] = refl
filter-filter p q (x ∷ xs) = by_test (q x)
    (λ t. rw t (by_test (p x) (λ f. rw f (ap (λ (l : List _). x ∷ l) (filter-filter p q xs))) (λ f. rw f (filter-filter p q xs))))
    (λ t. rw t (filter-filter p q xs))

pub length_of_columns : (s : SchemaRows) (table : List ℕ) → length (column_rows s table) ≡ count_by (λ row. is_counted row && is_about table row) s.columns
length_of_columns s table = ap length (filter-filter (is_about table) is_counted s.columns) ∙ length-filter (λ row. is_counted row && is_about table row) s.columns

and_swaps : (a b c d : Bool) → c ≡ d → ((a && b) && c) ≡ ((b && a) && d)
and_swaps true true c d e = e
and_swaps true false c d e = refl
and_swaps false true c d e = refl
and_swaps false false c d e = refl

pub table_same : (s u : SchemaRows) (name : List ℕ) → is_listed u name ≡ is_listed s name → columns_of u name ≡ columns_of s name → table_of u name ≡ table_of s name
table_same s u name l c = λ i. if bytes_eq name tables_name then Some tables_columns else if bytes_eq name columns_name then Some columns_columns else if l i then c i else None

module _ (s u : SchemaRows) (same : IsReordered s u) where
  listed_reordered : (name : List ℕ) → is_listed u name ≡ is_listed s name
  listed_reordered name = listed_is u (bytes_eq name) ∙ sym (list_any-IsPermutation (λ row. is_counted row && bytes_eq name (text_at 0 row)) s.tables u.tables same.tables) ∙ sym (listed_is s (bytes_eq name))

  length_reordered : (table : List ℕ) → length (column_rows u table) ≡ length (column_rows s table)
  length_reordered table = length_of_columns u table ∙ sum_by-IsPermutation (λ row. cond (is_counted row && is_about table row) 1 0) s.columns u.columns same.columns ∙ sym (length_of_columns s table)

  describes_reordered : (row : List Value) → describes_column u row ≡ describes_column s row
  describes_reordered row = let p = λ (c : List Value). bytes_eq (text_at 2 c) (text_at 1 row) in
      any_column_is u p (text_at 0 row) ∙ sym (list_any-IsPermutation (λ c. is_counted c && (is_about (text_at 0 row) c && p c)) s.columns u.columns same.columns) ∙ sym (any_column_is s p (text_at 0 row))

  lacks_reordered : (row : List Value) → lacks_value u row ≡ lacks_value s row
  lacks_reordered row = ap (λ b. is_null (value_at 0 row) || is_null (value_at 1 row) || (b && is_null (value_at 2 row))) (describes_reordered row)

  pub sound_reordered : NoFault s → NoFault u
  sound_reordered n = record {
    tables_full = sym (list_any-IsPermutation (list_any is_null) s.tables u.tables same.tables) ∙ n.tables_full;
    columns_full = sym (list_any-IsPermutation (list_any is_null) s.columns u.columns same.columns) ∙ n.columns_full;
    validation_full = list_any_same (lacks_value u) (lacks_value s) u.validation lacks_reordered ∙ sym (list_any-IsPermutation (lacks_value s) s.validation u.validation same.validation) ∙ n.validation_full;
    plain_names = listed_is u is_pool_name ∙ sym (list_any-IsPermutation (λ row. is_counted row && is_pool_name (text_at 0 row)) s.tables u.tables same.tables) ∙ sym (listed_is s is_pool_name) ∙ n.plain_names;
    tables_once = once 1 s.tables u.tables same.tables n.tables_once;
    columns_once = once 2 s.columns u.columns same.columns n.columns_once;
    validation_once = no_pair_permuted (share_key 2) (share_flips 2) s.validation u.validation same.validation n.validation_once;
    columns_listed = list_any_same (λ row. not (is_listed u (text_at 0 row))) (λ row. not (is_listed s (text_at 0 row))) (counted u.columns) (λ row. ap not (listed_reordered (text_at 0 row)))
        ∙ list_any-filter (λ row. not (is_listed s (text_at 0 row))) is_counted u.columns
        ∙ sym (list_any-IsPermutation (λ row. is_counted row && not (is_listed s (text_at 0 row))) s.columns u.columns same.columns)
        ∙ sym (list_any-filter (λ row. not (is_listed s (text_at 0 row))) is_counted s.columns) ∙ n.columns_listed;
  }
    where
      once : (k : ℕ) (xs ys : List (List Value)) → IsPermutation xs ys → has_pair (share_key k) (counted xs) ≡ false → has_pair (share_key k) (counted ys) ≡ false
      once k xs ys h d = has_pair-filter (share_key k) is_counted ys
          ∙ no_pair_permuted (λ a b. (is_counted a && is_counted b) && share_key k a b) (λ a b. and_swaps (is_counted a) (is_counted b) (share_key k a b) (share_key k b a) (share_flips k a b)) xs ys h (sym (has_pair-filter (share_key k) is_counted xs) ∙ d)

  columns_reordered : NoFault s → HasKinds s → (table : List ℕ) → columns_of u table ≡ columns_of s table
  columns_reordered n k table = columns_same s u table (length_reordered table)
      (λ name. find_permuted (validates table name) s.validation u.validation same.validation (one_validates s n k table name))
      (λ number. numbered_is u table number ∙ find_permuted (is_numbered table number) s.columns u.columns same.columns (one_numbered s n k table number) ∙ sym (numbered_is s table number))

  pub describes_reordered_too : HasKinds s → (ts : Described) → Describes s ts → Describes u ts
  describes_reordered_too k ts d = record {
    sound = sound_reordered d.sound;
    readable = λ name h. ap is_some (columns_reordered d.sound k name) ∙ d.readable name (sym (listed_reordered name) ∙ h);
    in_order = d.in_order;
    found = λ name. d.found name ∙ sym (table_same s u name (listed_reordered name) (columns_reordered d.sound k name));
  }
