-- The list of tables as it is told, and what the records of `_Tables` give.
use Rattle.std.proofs.Common.{◌≡◌, ℕ, Bool, true, false, cond, not, ◌&&◌, ◌||◌, ◌⊎◌, List, [], ◌∷◌, map, filter, refl, sym, ap, subst, ◌∙◌, inl, inr}
use Rattle.std.specs.Prelude.{Option, Some, None, bytes_eq}
use Rattle.std.specs.Cmp.Lexicographic.{bytes_decides}
use Rattle.std.specs.FinMap.{find}
use Rattle.std.specs.FinMap.Entries.{find-put, is_some-find, same_entries}
use Rattle.std.specs.List.{list_any}
use Rattle.std.specs.Ordering.{eq_by_cmp, is_eq, ordering_then}
use Rattle.std.specs.declared.cmp.Ordering.TheVariants.{Less, Equal, Greater}
use Rattle.msi_base.specs.Lists.{list_cmp}
use Rattle.std.proofs.lemmas.Bool.{and_right, or_cases}
use Rattle.std.proofs.lemmas.Map.Text.{is_eq-slice_cmp}
use Rattle.msi_base.proofs.BoolLemmas.{by_test, yes_is_no}
use Rattle.msi_table_values.specs.declared.value.Value.{Value}
use Rattle.msi_table_values.specs.declared.value.Value.TheVariants.{Null, Int, Str, Binary}
use Rattle.msi_table_values.specs.OrderLaws.{then_Equal}
use Rattle.msi_database_schema.specs.System.{columns_name, is_schema_table, tables_columns, tables_name}
use Rattle.msi_database_changes.specs.Database.{has_table}
use Rattle.msi_database_storage.specs.Kept.{Kept}
use Rattle.msi_transform_records.specs.declared.action.Action.TheVariants.{Add, Remove}
use Rattle.msi_transform_rows.specs.KeyOfRows.{key_cmp}
use Rattle.msi_transform_making.specs.Making.{ToldRow, ToldRows, by_keys, listing_record, names_beside, records_of_tables, told_names, told_rows}
use Rattle.msi_transform_laws.specs.CarriedOut.{ListsItsTables, RecordsGiveNewList, carried_out, listed_row, record_done}
use Rattle.msi_transform_laws.proofs.CarriedOutLemmas.{exact_keys, found_by, joined, keys_total, same, sorted}
use Rattle.msi_transform_laws.proofs.TableRecordsLemmas.{sorted_told}

-- whether a key is that of a name in the list, and of some name among others
abbrev is_named : List Value → List ℕ → Bool
is_named q name = eq_by_cmp key_cmp q (Str name ∷ [])

abbrev is_among : List Value → List (List ℕ) → Bool
is_among q names = list_any (is_named q) names

abbrev row_of : List Value → ToldRow
row_of q = record { values = q; stream = None }

-- WHAT IS THERE AT A KEY

find_listed : (q : List Value) (names : List (List ℕ)) → find key_cmp q (by_keys (map listed_row names)) ≡ cond (is_among q names) (Some (row_of q)) None
find_listed q [] = refl
find_listed q (n ∷ ns) =
    find-put key_cmp keys_total q (Str n ∷ []) (row_of (Str n ∷ [])) (by_keys (map listed_row ns))
    ∙ by_test (is_named q n)
    (λ t. rw t (ap (λ (k : List Value). Some (row_of k)) (sym (same q (Str n ∷ []) t))))
    (λ t. rw t (find_listed q ns))

choices : (a b : Bool) (x f : Option ToldRow) → cond b x (cond a x f) ≡ cond (a || b) x f
choices true true x f = refl
choices true false x f = refl
choices false b x f = refl

find_removed : (q : List Value) (names : List (List ℕ)) (rows : ToldRows) → find key_cmp q (carried_out tables_columns rows (map (listing_record Remove) names)) ≡ cond (is_among q names) None (find key_cmp q rows)
find_removed q [] rows = refl
find_removed q (n ∷ ns) rows =
    find_removed q ns (record_done tables_columns rows (listing_record Remove n))
    ∙ ap (cond (is_among q ns) None) (found_by tables_columns q rows (listing_record Remove n) Remove)
    ∙ choices (is_named q n) (is_among q ns) None (find key_cmp q rows)

find_added : (q : List Value) (names : List (List ℕ)) (rows : ToldRows) → find key_cmp q (carried_out tables_columns rows (map (listing_record (Add 1)) names)) ≡ cond (is_among q names) (Some (row_of q)) (find key_cmp q rows)
find_added q [] rows = refl
find_added q (n ∷ ns) rows =
    let first : cond (is_named q n) (Some (row_of (Str n ∷ []))) (find key_cmp q rows) ≡ cond (is_named q n) (Some (row_of q)) (find key_cmp q rows) =
    by_test (is_named q n) (λ t. rw t (ap (λ (k : List Value). Some (row_of k)) (sym (same q (Str n ∷ []) t)))) (λ t. rw t refl) in
    find_added q ns (record_done tables_columns rows (listing_record (Add 1) n))
    ∙ ap (cond (is_among q ns) (Some (row_of q))) (found_by tables_columns q rows (listing_record (Add 1) n) (Add 1) ∙ first)
    ∙ choices (is_named q n) (is_among q ns) (Some (row_of q)) (find key_cmp q rows)

-- WHICH NAMES ARE WHERE

-- a key names at most one table
longer_key : (m n : List ℕ) (v : Value) (vs : List Value) → is_named (Str m ∷ v ∷ vs) n ≡ false
longer_key m n v vs = elim (list_cmp m n) as (λ o. is_eq (ordering_then o Greater) ≡ false) [ Less ↦ refl | Equal ↦ refl | Greater ↦ refl ]

one_name : (q : List Value) → ((m : List ℕ) × (q ≡ Str m ∷ [])) ⊎ ((n : List ℕ) → is_named q n ≡ false)
one_name [] = inr (λ n. refl)
one_name (Null ∷ vs) = inr (λ n. refl)
one_name (Int i ∷ vs) = inr (λ n. refl)
one_name (Binary ∷ vs) = inr (λ n. refl)
one_name (Str m ∷ []) = inl (m, refl)
one_name (Str m ∷ v ∷ vs) = inr (λ n. longer_key m n v vs)

none_among : (q : List Value) (names : List (List ℕ)) → ((n : List ℕ) → is_named q n ≡ false) → is_among q names ≡ false
none_among q [] h = refl
none_among q (n ∷ ns) h = rw (h n, none_among q ns h) refl

pub exact_names : (m n : List ℕ) → eq_by_cmp list_cmp m n ≡ true → m ≡ n
exact_names m n t = (bytes_decides m n).0 (sym (is_eq-slice_cmp m n) ∙ t)

module _ (m : List ℕ) where
  abbrev is_name : List ℕ → Bool
  is_name n = eq_by_cmp list_cmp m n

  named_by : (n : List ℕ) → is_named (Str m ∷ []) n ≡ is_name n
  named_by n = ap is_eq (then_Equal (list_cmp m n))

  among_passing : (test : List ℕ → Bool) (names : List (List ℕ)) → is_among (Str m ∷ []) (filter test names) ≡ (list_any is_name names && test m)
  among_passing test [] = refl
  among_passing test (n ∷ ns) =
      let rest = among_passing test ns in
      by_test (is_name n)
      (λ t. let passes : test n ≡ test m = ap test (sym (exact_names m n t)) in
      by_test (test n)
      (λ p. let q : test m ≡ true = sym passes ∙ p in rw (p, named_by n, t, q) refl)
      (λ p. let q : test m ≡ false = sym passes ∙ p in rw (p, t) (rest ∙ and_right (list_any is_name ns) (test m) q ∙ sym q)))
      (λ t. by_test (test n)
      (λ p. rw (p, named_by n, t) rest)
      (λ p. rw (p, t) rest))

-- what becomes of a table: it comes, goes, or stays; the two that list tables are in both lists
settled : (before after system : Bool) (row : ToldRow) → (system ≡ true → before ≡ true)
    → cond (after && not before) (Some row) (cond (before && not after) None (cond (before && not system) (Some row) None)) ≡ cond (after && not system) (Some row) None
settled true true system row f = refl
settled true false system row f = refl
settled false true true row f = yes_is_no false (f refl) refl
settled false true false row f = refl
settled false false system row f = refl

module _ (old new : Kept) (was : ListsItsTables old) (is : ListsItsTables new) where
  system_there : (m : List ℕ) → is_schema_table m ≡ true → has_table m old.database ≡ true
  system_there m h = elim (or_cases (bytes_eq m tables_name) (bytes_eq m columns_name) h) [
    | inl t ↦ ap (λ (n : List ℕ). has_table n old.database) ((bytes_decides m tables_name).0 t) ∙ was.tables
    | inr t ↦ ap (λ (n : List ℕ). has_table n old.database) ((bytes_decides m columns_name).0 t) ∙ was.columns
  ]

  abbrev come : List (List ℕ)
  come = names_beside new.database old.database

  abbrev gone : List (List ℕ)
  gone = names_beside old.database new.database

  there : (q : List Value) → cond (is_among q come) (Some (row_of q)) (cond (is_among q gone) None (cond (is_among q (told_names old)) (Some (row_of q)) None))
      ≡ cond (is_among q (told_names new)) (Some (row_of q)) None
  there q = elim (one_name q) [
    | inr none ↦ rw (none_among q come none, none_among q gone none, none_among q (told_names old) none, none_among q (told_names new) none) refl
    | inl one ↦ (let m = one.0 in
        let before : list_any (is_name m) (map (λ t. t.0) old.database.tables) ≡ has_table m old.database = sym (is_some-find list_cmp m old.database.tables) in
        let after : list_any (is_name m) (map (λ t. t.0) new.database.tables) ≡ has_table m new.database = sym (is_some-find list_cmp m new.database.tables) in
        let a : is_among (Str m ∷ []) come ≡ (has_table m new.database && not (has_table m old.database)) =
        among_passing m (λ name. not (has_table name old.database)) (map (λ t. t.0) new.database.tables) ∙ ap (λ b. b && not (has_table m old.database)) after in
        let g : is_among (Str m ∷ []) gone ≡ (has_table m old.database && not (has_table m new.database)) =
        among_passing m (λ name. not (has_table name new.database)) (map (λ t. t.0) old.database.tables) ∙ ap (λ b. b && not (has_table m new.database)) before in
        let c : is_among (Str m ∷ []) (told_names old) ≡ (has_table m old.database && not (is_schema_table m)) =
        among_passing m (λ name. not (is_schema_table name)) (map (λ t. t.0) old.database.tables) ∙ ap (λ b. b && not (is_schema_table m)) before in
        let d : is_among (Str m ∷ []) (told_names new) ≡ (has_table m new.database && not (is_schema_table m)) =
        among_passing m (λ name. not (is_schema_table name)) (map (λ t. t.0) new.database.tables) ∙ ap (λ b. b && not (is_schema_table m)) after in
        let row = row_of (Str m ∷ []) in
        subst (λ (k : List Value). cond (is_among k come) (Some (row_of k)) (cond (is_among k gone) None (cond (is_among k (told_names old)) (Some (row_of k)) None)) ≡ cond (is_among k (told_names new)) (Some (row_of k)) None) (sym one.1)
        ((λ i. cond (a i) (Some row) (cond (g i) None (cond (c i) (Some row) None)))
        ∙ settled (has_table m old.database) (has_table m new.database) (is_schema_table m) row (system_there m)
        ∙ ap (λ b. cond b (Some row) None) (sym d)))
  ]

  at_each_key : (q : List Value) → find key_cmp q (carried_out tables_columns (told_rows old tables_name 0) (records_of_tables old.database new.database)) ≡ find key_cmp q (told_rows new tables_name 0)
  at_each_key q =
      let rows = told_rows old tables_name 0 in
      let left = carried_out tables_columns rows (map (listing_record Remove) gone) in
      let listed : find key_cmp q rows ≡ cond (is_among q (told_names old)) (Some (row_of q)) None = ap (find key_cmp q) was.listed ∙ find_listed q (told_names old) in
      ap (find key_cmp q) (joined tables_columns rows (map (listing_record Remove) gone) (map (listing_record (Add 1)) come))
      ∙ find_added q come left
      ∙ ap (cond (is_among q come) (Some (row_of q))) (find_removed q gone rows ∙ ap (cond (is_among q gone) None) listed)
      ∙ there q
      ∙ sym (ap (find key_cmp q) is.listed ∙ find_listed q (told_names new))

pub records_give_new_list : RecordsGiveNewList
records_give_new_list old new was is =
    let records = records_of_tables old.database new.database in
    same_entries key_cmp keys_total exact_keys (carried_out tables_columns (told_rows old tables_name 0) records) (told_rows new tables_name 0)
    (sorted tables_columns (told_rows old tables_name 0) records (sorted_told old tables_name 0)) (sorted_told new tables_name 0)
    (at_each_key old new was is)
