-- Without the rows about a table, the others are described as they were.
use Rattle.std.proofs.Common.{◌≡◌, ℕ, Bool, true, false, List, [], ◌∷◌, length, take, refl, sym, ap, ◌∙◌, Some, None}
use Rattle.std.specs.Prelude.{◌&&◌, not, Option, filter, find, is_some, if◌then◌else◌, bytes_eq}
use Rattle.std.specs.List.{list_any}
use Rattle.std.specs.FinMap.{find as find_in}
use Rattle.std.specs.FinMap.Entries.{find-where_key, is_sorted-where_key}
use Rattle.std.specs.Ordering.{eq_by_cmp, is_eq, ordering_then}
use Rattle.std.specs.declared.cmp.Ordering.{Ordering}
use Rattle.std.specs.declared.cmp.Ordering.TheVariants.{Less, Equal, Greater}
use Rattle.std.proofs.Math.Bool.{and-false, and_comm}
use Rattle.std.proofs.lemmas.Bool.{or_parts}
use Rattle.msi_base.specs.Lists.{has_pair, list_cmp}
use Rattle.msi_table_values.specs.declared.value.Value.{Value}
use Rattle.msi_table_values.specs.declared.value.Value.TheVariants as value
use Rattle.msi_table_cells.specs.KeyOrder.{same_key}
use Rattle.msi_database_schema.specs.Keys.{is_pool_name}
use Rattle.msi_database_schema.specs.System.{columns_name, is_schema_table, tables_name}
use Rattle.msi_database_schema.specs.Schema.{SchemaRows, column_rows, columns_of, counted, has_number, is_about}
use Rattle.msi_database_schema.specs.Schema.{lacks_value, schema_of, share_key, text_at, validation_row}
use Rattle.msi_base.proofs.ListLemmas.{all_from, none_pass, all_kept, any_kept, find-filter, find_same}
use Rattle.msi_base.proofs.ListLemmas.{list_any-filter, list_any_same, no_pair_kept}
use Rattle.msi_base.proofs.BoolLemmas.{by_test, yes_is_no}
use Rattle.msi_table_values.specs.Values.{is_null}
use Rattle.msi_database_schema.proofs.SchemaLemmas.{Described, Describes, NoFault, describes_from, is_listed, names_tie, same_names, schema_from, table_of}
use Rattle.msi_database_schema.proofs.OrderlessLemmas.{HasKinds, IsColumnRow, IsReordered, IsValidationRow, columns_same, describes_reordered_too, filter-filter, is_counted, listed_is, table_same, texts_same, validates}
use Rattle.msi_database_schema.proofs.FaultLemmas.{texts_flip}

-- the rows without those about a name
abbrev pub stays : List ℕ → List Value → Bool
stays name row = not (is_about name row)

abbrev pub dropped : SchemaRows → List ℕ → SchemaRows
dropped s name = record { tables = filter (stays name) s.tables; columns = filter (stays name) s.columns; validation = filter (stays name) s.validation }

-- ---- a row about a name, by its first value

then_Equal : (o : Ordering) → is_eq (ordering_then o Equal) ≡ is_eq o
then_Equal Less = refl
then_Equal Equal = refl
then_Equal Greater = refl

-- what a drop removes is what stands about the name, where that isn't empty
pub is_about_by_key : (n : ℕ) (ns : List ℕ) (row : List Value) → same_key (value.Str (n ∷ ns) ∷ []) (take 1 row) ≡ is_about (n ∷ ns) row
is_about_by_key n ns [] = refl
is_about_by_key n ns (value.Null ∷ vs) = refl
is_about_by_key n ns (value.Int m ∷ vs) = refl
is_about_by_key n ns (value.Str t ∷ vs) = then_Equal (list_cmp (n ∷ ns) t) ∙ names_tie (n ∷ ns) t ∙ texts_flip (n ∷ ns) t
is_about_by_key n ns (value.Binary ∷ vs) = refl

nothing : {X : Type 0} (a b c : Bool) (x y z : Option X) → a ≡ false → b ≡ false → c ≡ false → (if a then x else if b then y else if c then z else None) ≡ None
nothing a b c x y z e f g = rw (e, f, g)

pub filters_swap : {X : Type 0} (p q : X → Bool) (xs : List X) → filter p (filter q xs) ≡ filter q (filter p xs)
filters_swap p q xs = filter-filter p q xs ∙ (λ i. filter (λ x. and_comm (q x) (p x) i) xs) ∙ sym (filter-filter q p xs)

-- ---- tests of rows that stay

module _ (name other : List ℕ) (apart : bytes_eq other name ≡ false) where
  stays_about : (row : List Value) → is_about other row ≡ true → stays name row ≡ true
  stays_about row t = let same : text_at 0 row ≡ other = texts_same _ _ t in ap (λ (l : List ℕ). not (bytes_eq l name)) same ∙ ap not apart

  about_kept : (c : Bool) (row : List Value) → (stays name row && (c && is_about other row)) ≡ (c && is_about other row)
  about_kept c row = by_test (is_about other row) (λ t. rw (stays_about row t) refl) (λ t. rw (t, and-false c) (and-false (stays name row)))

  validates_kept : (column : List ℕ) (row : List Value) → (stays name row && validates other column row) ≡ validates other column row
  validates_kept column row = by_test (is_about other row) (λ t. rw (stays_about row t) refl) (λ t. rw t (and-false (stays name row)))

  listed_kept : (row : List Value) → (stays name row && (is_counted row && bytes_eq other (text_at 0 row))) ≡ (is_counted row && bytes_eq other (text_at 0 row))
  listed_kept row = rw (texts_flip other (text_at 0 row)) (about_kept (is_counted row) row)

abbrev pub without : List ℕ → Described → Described
without name ts = filter (λ t. not (eq_by_cmp list_cmp name t.0)) ts

-- rows that no longer list a name, and say of the others what they said
pub describes_without : (s u : SchemaRows) (name : List ℕ) (ts : Described) → is_schema_table name ≡ false → NoFault u → is_listed u name ≡ false
    → ((other : List ℕ) → bytes_eq other name ≡ false → is_listed u other ≡ is_listed s other) → ((other : List ℕ) → bytes_eq other name ≡ false → columns_of u other ≡ columns_of s other)
    → Describes s ts → Describes u (without name ts)
describes_without s u name ts free sound gone listed columns d = record {
  sound = sound;
  readable = λ other h. by_test (bytes_eq other name)
      (λ t. let e = texts_same other name t in yes_is_no (is_listed u name) (ap (is_listed u) (sym e) ∙ h) gone)
      (λ t. ap is_some (columns other t) ∙ d.readable other (sym (listed other t) ∙ h));
  in_order = is_sorted-where_key list_cmp (λ x. not (eq_by_cmp list_cmp name x)) ts d.in_order;
  found = λ other. find-where_key list_cmp (λ x. not (eq_by_cmp list_cmp name x)) other (λ x e. ap (λ (y : List ℕ). not (eq_by_cmp list_cmp name y)) (sym (same_names other x e))) ts
      ∙ ap (λ b. if not b then find_in list_cmp other ts else None) (names_tie name other ∙ texts_flip name other)
      ∙ by_test (bytes_eq other name)
      (λ t. let e = texts_same other name t in let r = or_parts _ _ free in ap (λ b. if not b then find_in list_cmp other ts else None) t
      ∙ sym (nothing (bytes_eq name tables_name) (bytes_eq name columns_name) (is_listed u name) _ _ (columns_of u name) (r.0) (r.1) gone) ∙ ap (table_of u) (sym e))
      (λ t. ap (λ b. if not b then find_in list_cmp other ts else None) t ∙ d.found other ∙ sym (table_same s u other (listed other t) (columns other t)));
}

module _ (s : SchemaRows) (name : List ℕ) where
  abbrev left : SchemaRows
  left = dropped s name

  pub columns_left : (other : List ℕ) → bytes_eq other name ≡ false → column_rows left other ≡ column_rows s other
  columns_left other d = filter-filter (is_about other) is_counted (filter (stays name) s.columns)
      ∙ filter-filter (λ row. is_counted row && is_about other row) (stays name) s.columns
      ∙ (λ i. filter (λ row. about_kept name other d (is_counted row) row i) s.columns)
      ∙ sym (filter-filter (is_about other) is_counted s.columns)

  validation_left : (other column : List ℕ) → bytes_eq other name ≡ false → validation_row left other column ≡ validation_row s other column
  validation_left other column d = find-filter (validates other column) (stays name) s.validation ∙ find_same _ (validates other column) s.validation (validates_kept name other d column)

  pub listed_left : (other : List ℕ) → bytes_eq other name ≡ false → is_listed left other ≡ is_listed s other
  listed_left other d = listed_is left (bytes_eq other) ∙ list_any-filter (λ row. is_counted row && bytes_eq other (text_at 0 row)) (stays name) s.tables
      ∙ list_any_same _ (λ row. is_counted row && bytes_eq other (text_at 0 row)) s.tables (listed_kept name other d) ∙ sym (listed_is s (bytes_eq other))

  pub unlisted : is_listed left name ≡ false
  unlisted = listed_is left (bytes_eq name) ∙ list_any-filter (λ row. is_counted row && bytes_eq name (text_at 0 row)) (stays name) s.tables
      ∙ none_pass (λ row. stays name row && (is_counted row && bytes_eq name (text_at 0 row))) s.tables (all_from _ s.tables (λ row h. not_listed row))
    where
      not_listed : (row : List Value) → (stays name row && (is_counted row && bytes_eq name (text_at 0 row))) ≡ false
      not_listed row = by_test (is_about name row) (λ t. rw t refl) (λ t. rw (texts_flip name (text_at 0 row), t, and-false (is_counted row)) refl)

  other_columns : (other : List ℕ) → bytes_eq other name ≡ false → columns_of left other ≡ columns_of s other
  other_columns other d = columns_same s left other (ap length (columns_left other d)) (λ column. validation_left other column d) (λ number. ap (find (has_number number)) (columns_left other d))

  lacks_left : (row : List Value) → (stays name row && lacks_value left row) ≡ (stays name row && lacks_value s row)
  lacks_left row = by_test (is_about name row) (λ t. rw t refl) (λ t. rw (t, columns_left (text_at 0 row) t) refl)

  lists_left : (row : List Value) → (stays name row && (is_counted row && not (is_listed left (text_at 0 row)))) ≡ (stays name row && (is_counted row && not (is_listed s (text_at 0 row))))
  lists_left row = by_test (is_about name row) (λ t. rw t refl) (λ t. rw (t, listed_left (text_at 0 row) t) refl)

  pub sound_left : NoFault s → NoFault left
  sound_left n = record {
    tables_full = any_kept (list_any is_null) (stays name) s.tables n.tables_full;
    columns_full = any_kept (list_any is_null) (stays name) s.columns n.columns_full;
    validation_full = list_any-filter (lacks_value left) (stays name) s.validation ∙ list_any_same _ _ s.validation lacks_left ∙ sym (list_any-filter (lacks_value s) (stays name) s.validation) ∙ any_kept (lacks_value s) (stays name) s.validation n.validation_full;
    plain_names = listed_is left is_pool_name ∙ any_kept _ (stays name) s.tables (sym (listed_is s is_pool_name) ∙ n.plain_names);
    tables_once = once 1 s.tables n.tables_once;
    columns_once = once 2 s.columns n.columns_once;
    validation_once = no_pair_kept (share_key 2) (stays name) s.validation n.validation_once;
    columns_listed = list_any-filter (λ row. not (is_listed left (text_at 0 row))) is_counted (filter (stays name) s.columns)
        ∙ list_any-filter (λ row. is_counted row && not (is_listed left (text_at 0 row))) (stays name) s.columns
        ∙ list_any_same _ _ s.columns lists_left
        ∙ sym (list_any-filter (λ row. is_counted row && not (is_listed s (text_at 0 row))) (stays name) s.columns)
        ∙ any_kept (λ row. is_counted row && not (is_listed s (text_at 0 row))) (stays name) s.columns (sym (list_any-filter (λ row. not (is_listed s (text_at 0 row))) is_counted s.columns) ∙ n.columns_listed);
  }
    where
      once : (k : ℕ) (xs : List (List Value)) → has_pair (share_key k) (counted xs) ≡ false → has_pair (share_key k) (counted (filter (stays name) xs)) ≡ false
      once k xs e = ap (has_pair (share_key k)) (filters_swap is_counted (stays name) xs) ∙ no_pair_kept (share_key k) (stays name) (counted xs) e

  describes_left : (ts : Described) → is_schema_table name ≡ false → Describes s ts → Describes left (without name ts)
  describes_left ts free d = describes_without s left name ts free (sound_left d.sound) unlisted listed_left other_columns d

  kinds_left : HasKinds s → HasKinds left
  kinds_left k = record { columns = all_kept IsColumnRow (stays name) s.columns k.columns; validation = all_kept IsValidationRow (stays name) s.validation k.validation }

-- the rows that are left, in any order, describe the tables that they described but the one
pub schema_dropped : (s u : SchemaRows) (name : List ℕ) (ts : Described) → HasKinds s → is_schema_table name ≡ false → IsReordered (dropped s name) u
    → schema_of s ≡ Some ts → schema_of u ≡ Some (without name ts)
schema_dropped s u name ts kinds free same e =
    schema_from u (without name ts) (describes_reordered_too (dropped s name) u same (kinds_left s name kinds) (without name ts) (describes_left s name ts free (describes_from s ts e)))

-- the rows that a drop leaves
pub left_by_key : (n : ℕ) (ns : List ℕ) (rows : List (List Value)) → filter (λ row. not (same_key (value.Str (n ∷ ns) ∷ []) (take 1 row))) rows ≡ filter (stays (n ∷ ns)) rows
left_by_key n ns rows = λ i. filter (λ row. not (is_about_by_key n ns row i)) rows
