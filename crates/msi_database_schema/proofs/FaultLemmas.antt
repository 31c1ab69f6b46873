-- What looking rows up tells of broken rules.
use Rattle.std.proofs.Common.{◌≡◌, ℕ, Bool, true, false, List, [], ◌∷◌, refl, sym, ap, ◌∙◌, Some, None}
use Rattle.std.specs.Prelude.{◌&&◌, ◌||◌, not, Option, is_none, is_some, bytes_eq, find, option_copied}
use Rattle.std.specs.List.{list_any}
use Rattle.std.proofs.lemmas.List.Sorted.{IsPermutation-refl}
use Rattle.std.proofs.lemmas.Slice.Eq.{bytes_eq-Decides}
use Rattle.std.proofs.lemmas.Bool.{not-true}
use denote.Ref.{Bor}
use Rattle.msi_base.specs.Lists.{has_pair, stable_sort}
use Rattle.msi_table_values.specs.declared.value.Value.{Value}
use Rattle.msi_database_schema.specs.Keys.{is_pool_name}
use Rattle.msi_database_schema.specs.RowOrders.{by_texts, has_faulty_row, rows_of, shares_key, texts_at, texts_cmp}
use Rattle.msi_database_schema.specs.Schema.{SchemaRows, counted, describes_column, has_null, is_about, is_faulty, lacks_value, listed_names, share_key, text_at}
use Rattle.msi_database_schema.specs.System.{is_schema_table}
use Rattle.msi_base.proofs.ListLemmas.{list_any-filter, list_any_same}
use Rattle.msi_base.proofs.BoolLemmas.{by_test, same_truth}
use Rattle.msi_database_schema.proofs.OrderLemmas.{sorted_is}
use Rattle.msi_database_schema.proofs.OrderlessLemmas.{any_column_is, is_counted, listed_is, texts_same}
use Rattle.msi_database_schema.proofs.RowOrderLemmas.{texts_total}
use Rattle.msi_database_schema.proofs.TablesLemmas.{about_counts, faulty_reordered}

pub none_found : {X : Type 0} (p : X → Bool) (xs : List X) → is_none (find p xs) ≡ not (list_any p xs)
none_found p [] = refl
none_found p (x ∷ xs) = by_test (p x) (λ t. rw t refl) (λ t. rw t (none_found p xs))

pub some_found : {X : Type 0} (p : X → Bool) (xs : List X) → is_some (find p xs) ≡ list_any p xs
some_found p [] = refl
some_found p (x ∷ xs) = by_test (p x) (λ t. rw t refl) (λ t. rw t (some_found p xs))

pub copied_none : {X : Type 0} (o : Option (Bor X)) → is_none o ≡ is_none (option_copied o)
copied_none None = refl
copied_none (Some x) = refl

pub none_from : {X : Type 0} (b : Bool) (o : Option X) → not b ≡ is_some o → b ≡ is_none o
none_from true None e = refl
none_from false None e = cc
none_from true (Some x) e = cc
none_from false (Some x) e = refl

pub copied_some : {X : Type 0} (o : Option (Bor X)) → is_some o ≡ is_some (option_copied o)
copied_some None = refl
copied_some (Some x) = refl

pub texts_flip : (s t : List ℕ) → bytes_eq s t ≡ bytes_eq t s
texts_flip s t = same_truth (bytes_eq s t) (bytes_eq t s) (λ e. (bytes_eq-Decides t s).1 (sym (texts_same s t e))) (λ e. (bytes_eq-Decides s t).1 (sym (texts_same t s e)))

twice : (a b c : Bool) → (b ≡ true → a ≡ true) → b ≡ c → (b && b) ≡ (a && c)
twice true b c h e = e2 b c e
  where
    e2 : (b c : Bool) → b ≡ c → (b && b) ≡ c
    e2 true c e = e
    e2 false c e = e
twice false true c h e = let f = h refl in cc
twice false false c h e = refl

-- a table that counts is listed where a row about it is found
pub listed_found : (s : SchemaRows) (table : List ℕ) → is_schema_table table ≡ false
    → list_any (λ row. is_about table row && bytes_eq (text_at 0 row) table) s.tables ≡ list_any (bytes_eq table) (listed_names s)
listed_found s table plain =
    list_any_same (λ row. is_about table row && bytes_eq (text_at 0 row) table) (λ row. is_counted row && bytes_eq table (text_at 0 row)) s.tables
    (λ row. twice (is_counted row) (is_about table row) (bytes_eq table (text_at 0 row)) (about_counts table row plain) (texts_flip (text_at 0 row) table))
    ∙ sym (listed_is s (bytes_eq table))

pub unlisted_told : (s : SchemaRows) (table : List ℕ) (answer : Bool) → not (is_schema_table table) ≡ true
    → answer ≡ is_none (find (λ row. is_about table row && bytes_eq (text_at 0 row) table) s.tables)
    → answer ≡ (not (is_schema_table table) && not (list_any (bytes_eq table) (listed_names s)))
unlisted_told s table answer counts e = e ∙ none_found (λ row. is_about table row && bytes_eq (text_at 0 row) table) s.tables
    ∙ ap not (listed_found s table (not-true (is_schema_table table) counts)) ∙ rw counts refl

described_test : (a b c : Bool) → (b ≡ true → a ≡ true) → (b && c) ≡ (a && (b && c))
described_test true b c h = refl
described_test false true c h = let f = h refl in cc
described_test false false c h = refl

pub described_told : (s : SchemaRows) (row : List Value) (answer : Bool) → not (is_schema_table (text_at 0 row)) ≡ true
    → answer ≡ is_some (find (λ c. is_about (text_at 0 row) c && bytes_eq (text_at 2 c) (text_at 1 row)) s.columns) → answer ≡ describes_column s row
described_told s row answer counts e =
    e ∙ some_found (λ c. is_about (text_at 0 row) c && bytes_eq (text_at 2 c) (text_at 1 row)) s.columns
    ∙ list_any_same (λ c. is_about (text_at 0 row) c && bytes_eq (text_at 2 c) (text_at 1 row)) (λ c. is_counted c && (is_about (text_at 0 row) c && bytes_eq (text_at 2 c) (text_at 1 row))) s.columns
    (λ c. described_test (is_counted c) (is_about (text_at 0 row) c) (bytes_eq (text_at 2 c) (text_at 1 row)) (about_counts (text_at 0 row) c (not-true (is_schema_table (text_at 0 row)) counts)))
    ∙ sym (any_column_is s (λ c. bytes_eq (text_at 2 c) (text_at 1 row)) (text_at 0 row))

-- no row describes a column of the two tables
both_no : (a b c : Bool) → (b ≡ true → a ≡ false) → (a && (b && c)) ≡ false
both_no true true c h = let f = h refl in cc
both_no true false c h = refl
both_no false b c h = refl

never : {X : Type 0} (xs : List X) → list_any (λ x. false) xs ≡ false
never [] = refl
never (x ∷ xs) = never xs

pub none_described : (s : SchemaRows) (row : List Value) (counts : Bool) → counts ≡ not (is_schema_table (text_at 0 row)) → counts ≡ false → counts ≡ describes_column s row
none_described s row counts e f =
    f ∙ sym (any_column_is s (λ c. bytes_eq (text_at 2 c) (text_at 1 row)) (text_at 0 row)
    ∙ list_any_same (λ c. is_counted c && (is_about (text_at 0 row) c && bytes_eq (text_at 2 c) (text_at 1 row))) (λ c. false) s.columns
    (λ c. both_no (is_counted c) (is_about (text_at 0 row) c) (bytes_eq (text_at 2 c) (text_at 1 row))
    (λ t. ap (λ (u : List ℕ). not (is_schema_table u)) (texts_same (text_at 0 c) (text_at 0 row) t) ∙ sym e ∙ f))
    ∙ never s.columns)

-- the parts of being faulty
parts : (a b c d e f g h : Bool) → (a || b || c || d || e || f || g || h) ≡ ((a || b || c || d || h) || (e || f || g))
parts true b c d e f g h = refl
parts false true c d e f g h = refl
parts false false true d e f g h = refl
parts false false false true e f g h = refl
parts false false false false true f g true = refl
parts false false false false true f g false = refl
parts false false false false false true g true = refl
parts false false false false false true g false = refl
parts false false false false false false true true = refl
parts false false false false false false true false = refl
parts false false false false false false false true = refl
parts false false false false false false false false = refl

pub faulty_parts : (s : SchemaRows) → is_faulty s ≡ (has_faulty_row s || shares_key s)
faulty_parts s =
    parts (has_null s.tables) (has_null s.columns) (list_any (lacks_value s) s.validation) (list_any is_pool_name (listed_names s))
    (has_pair (share_key 1) (counted s.tables)) (has_pair (share_key 2) (counted s.columns)) (has_pair (share_key 2) s.validation)
    (list_any (λ row. not (list_any (bytes_eq (text_at 0 row)) (listed_names s))) (counted s.columns))
    ∙ λ i. (has_null s.tables || has_null s.columns || list_any (lacks_value s) s.validation || listed_is s is_pool_name i
    || list_any-filter (λ row. not (list_any (bytes_eq (text_at 0 row)) (listed_names s))) is_counted s.columns i) || shares_key s

-- sorted rows tell whether the rows are faulty
module _ (s : SchemaRows) (tables columns validation : List (List Value)) (et : tables ≡ stable_sort (by_texts 0) s.tables) (ec : columns ≡ stable_sort (by_texts 2) s.columns) (ev : validation ≡ s.validation) where
  abbrev sorted : SchemaRows
  sorted = rows_of (stable_sort (by_texts 0) s.tables) (stable_sort (by_texts 2) s.columns) s.validation

  same_rows : rows_of tables columns validation ≡ sorted
  same_rows = λ i. rows_of (et i) (ec i) (ev i)

  told : (has_faulty_row (rows_of tables columns validation) || shares_key (rows_of tables columns validation)) ≡ is_faulty s
  told = sym (faulty_parts (rows_of tables columns validation)) ∙ ap is_faulty same_rows
      ∙ faulty_reordered s sorted (record { tables = (sorted_is (texts_at 0) texts_cmp texts_total s.tables).moved; columns = (sorted_is (texts_at 2) texts_cmp texts_total s.columns).moved; validation = IsPermutation-refl s.validation })

  pub fault_in_row : has_faulty_row (rows_of tables columns validation) ≡ true → true ≡ is_faulty s
  fault_in_row e = first_holds (has_faulty_row (rows_of tables columns validation)) (shares_key (rows_of tables columns validation)) e ∙ told
    where
      first_holds : (a b : Bool) → a ≡ true → true ≡ (a || b)
      first_holds true b e = refl
      first_holds false b e = cc

  pub fault_in_keys : has_faulty_row (rows_of tables columns validation) ≡ false → shares_key (rows_of tables columns validation) ≡ is_faulty s
  fault_in_keys e = second_left (has_faulty_row (rows_of tables columns validation)) (shares_key (rows_of tables columns validation)) e ∙ told
    where
      second_left : (a b : Bool) → a ≡ false → b ≡ (a || b)
      second_left true b e = cc
      second_left false b e = refl
