-- Rows that list tables and describe their columns, in the order of their keys, and those that are left without some.
use Rattle.std.proofs.Common.{◌≡◌, inl, inr, ℕ, zero, suc, ◌+◌, ◌<◌, ◌≤◌, Bool, true, false, not, ◌||◌, List, [], ◌∷◌, map, refl, sym, ap, subst, ◌∙◌, arith}
use Rattle.std.specs.Cmp.{tied_itself}
use Rattle.std.specs.FinMap.{put}
use Rattle.std.specs.FinMap.Entries.{by_order}
use Rattle.std.specs.List.{AllByRecursion, list_any, range_with_len}
use Rattle.std.specs.Ordering.{eq_by_cmp, is_eq}
use Rattle.std.specs.declared.cmp.Ordering.TheVariants.{Less, Equal, Greater}
use Rattle.std.proofs.lemmas.Bool.{cases_eq}
use Rattle.msi_base.specs.Lists.{has_pair, list_cmp}
use Rattle.msi_base.proofs.BoolLemmas.{by_test, yes_is_no}
use Rattle.msi_base.proofs.ListLemmas.{all_weaker}
use Rattle.msi_pool.specs.Pool.{Place}
use Rattle.msi_table_cells.specs.declared.cell.ValueRef.{ValueRef}
use Rattle.msi_table_cells.specs.CellValues.{row_values}
use Rattle.msi_table_cells.specs.KeyOrder.{key_of, same_key}
use Rattle.msi_table_values.specs.declared.value.Value.{Value}
use Rattle.msi_table_values.specs.Columns.{ColumnDef}
use Rattle.msi_database_changes.specs.KeySets.{keys_of_rows}
use Rattle.msi_database_changes.proofs.text_counts.RowsLemmas.{rows_uses}
use Rattle.msi_transform_rows.specs.KeyOfRows.{key_cmp}
use Rattle.msi_transform_rows.specs.RowChanges.{Rows, by_key, cells_of, keyed, without_row_at}
use Rattle.msi_transform_rows.specs.declared.row.RowInHand.{RowInHand}
use Rattle.msi_transform_schema.specs.SchemaApplying.{have_own_keys}
use Rattle.msi_transform_schema.specs.SchemaChanges.{column_key, plain_row, without_keys}
use Rattle.msi_transform_laws.proofs.AlikeRowsLemmas.{uses_in, uses_of_rows}
use Rattle.msi_transform_laws.proofs.CarriedOutLemmas.{keys_total, same}
use Rattle.msi_transform_laws.proofs.KeyedEntriesLemmas.{sum_of}
use Rattle.msi_transform_laws.proofs.ListedTablesLemmas.{exact_names}
use Rattle.msi_transform_laws.proofs.TablesChangedLemmas.{uses_by_key}
use Rattle.msi_transform_laws.proofs.TablesRemovedLemmas.{without_all}

not_true : (b : Bool) → not b ≡ true → b ≡ false
not_true true h = sym h
not_true false h = refl

-- ROWS WITHOUT THOSE OF SOME KEYS

abbrev pub among_keys : (List ℕ → List (List Value)) → List (List ℕ) → List Value → Bool
among_keys keys names q = list_any (λ name. list_any (λ k. same_key k q) (keys name)) names

-- a name's own key is among those of some names where the name is
pub among_own : (keys : List ℕ → List (List Value)) (name : List ℕ) (names : List (List ℕ)) (q : List Value) → list_any (eq_by_cmp list_cmp name) names ≡ true → list_any (λ k. same_key k q) (keys name) ≡ true
    → among_keys keys names q ≡ true
among_own keys name [] q among own = yes_is_no false among refl
among_own keys name (m ∷ ms) q among own = by_test (list_any (λ k. same_key k q) (keys m))
    (λ t. rw t refl)
    (λ t. rw t (by_test (eq_by_cmp list_cmp name m)
    (λ e. yes_is_no (list_any (λ k. same_key k q) (keys m)) (ap (λ (x : List ℕ). list_any (λ k. same_key k q) (keys x)) (sym (exact_names name m e)) ∙ own) t)
    (λ e. among_own keys name ms q (rw e at among) own)))

module _ (P : List Value × RowInHand → Type 0) where
  left_of_keys : (rest : List Value → Bool) (keys : List (List Value)) (rows : Rows)
      → AllByRecursion (λ (e : List Value × RowInHand). (list_any (λ k. same_key k e.0) keys || rest e.0) ≡ false → P e) rows
      → AllByRecursion (λ (e : List Value × RowInHand). rest e.0 ≡ false → P e) (without_keys rows keys)
  left_of_keys rest [] rows h = h
  left_of_keys rest (k ∷ ks) rows h = left_of_keys rest ks (without_row_at k rows) (left_one rows h)
    where
      left_one : (es : Rows) → AllByRecursion (λ (e : List Value × RowInHand). (list_any (λ k. same_key k e.0) (k ∷ ks) || rest e.0) ≡ false → P e) es
          → AllByRecursion (λ (e : List Value × RowInHand). (list_any (λ k. same_key k e.0) ks || rest e.0) ≡ false → P e) (without_row_at k es)
      left_one [] h = tt
      left_one (e ∷ es) h = by_test (eq_by_cmp key_cmp k e.0)
          (λ t. rw t (left_one es h.1))
          (λ t. rw t ((λ none. h.0 (rw t none)), left_one es h.1))

  pub left_of_names : (keys : List ℕ → List (List Value)) (names : List (List ℕ)) (rows : Rows)
      → AllByRecursion (λ (e : List Value × RowInHand). among_keys keys names e.0 ≡ false → P e) rows → AllByRecursion P (without_all keys names rows)
  left_of_names keys [] rows h = all_weaker (λ (e : List Value × RowInHand). false ≡ false → P e) P rows (λ e f. f refl) h
  left_of_names keys (name ∷ names) rows h = left_of_names keys names (without_keys rows (keys name)) (left_of_keys (among_keys keys names) (keys name) rows h)

-- rows in the order of their keys
module _ (P : List Value × RowInHand → Type 0) where
  all_put : (k : List Value) (row : RowInHand) (es : Rows) → ((q : List Value) → is_eq (key_cmp k q) ≡ true → P (q, row)) → AllByRecursion P es → AllByRecursion P (put key_cmp k row es)
  all_put k row [] p h = (p k (ap is_eq (tied_itself keys_total k)), tt)
  all_put k row (e ∷ es) p h =
      elim (key_cmp k e.0) as (λ o. key_cmp k e.0 ≡ o → AllByRecursion P (by_order o ((k, row) ∷ e ∷ es) ((e.0, row) ∷ es) (e ∷ put key_cmp k row es))) [
        | Less ↦ λ o. (p k (ap is_eq (tied_itself keys_total k)), h)
        | Equal ↦ λ o. (p e.0 (ap is_eq o), h.1)
        | Greater ↦ λ o. (h.0, all_put k row es p h.1)
      ] refl

  pub all_by_key : (es : Rows) → AllByRecursion P es → AllByRecursion P (by_key es)
  all_by_key [] h = tt
  all_by_key (e ∷ es) h = all_put e.0 e.1 (by_key es) (λ q t. subst (λ (k : List Value). P (k, e.1)) (same e.0 q t) h.0) (all_by_key es h.1)

-- the rows of a list, beside their keys
module _ (columns : List ColumnDef) (places : List Place) where
  abbrev pub in_list : List (List ValueRef) → Rows
  in_list rows = map (keyed columns places) (map plain_row rows)

  keys_in_list : (rows : List (List ValueRef)) → map (λ e. e.0) (in_list rows) ≡ keys_of_rows places columns rows
  keys_in_list [] = refl
  keys_in_list (row ∷ rows) = ap (λ (l : List (List Value)). key_of columns (row_values places row) ∷ l) (keys_in_list rows)

  sum_in_list : (rows : List (List ValueRef)) (n : ℕ) → sum_of (uses_in n) (in_list rows) ≡ rows_uses rows n
  sum_in_list [] n = refl
  sum_in_list (row ∷ rows) n = omega (arith, sum_in_list rows n)

  pub uses_in_list : (rows : List (List ValueRef)) (n : ℕ) → have_own_keys places columns rows ≡ true → rows_uses (cells_of (by_key (in_list rows))) n ≡ rows_uses rows n
  uses_in_list rows n own =
      uses_of_rows (by_key (in_list rows)) n
      ∙ uses_by_key (in_list rows) n (ap (λ (l : List (List Value)). has_pair same_key l) (keys_in_list rows) ∙ not_true (has_pair same_key (keys_of_rows places columns rows)) own)
      ∙ sum_in_list rows n

-- the number of a column is among those of its table
pub numbered_among : (table : List ℕ) (number first len : ℕ) → first ≤ number → number < first + len → list_any (λ k. same_key k (column_key table number)) (map (column_key table) (range_with_len first len)) ≡ true
numbered_among table number first zero low high = absurd (omega (arith, low, high))
numbered_among table number first (suc len) low high = by_test (same_key (column_key table first) (column_key table number))
    (λ t. rw t refl)
    (λ t. rw t (numbered_among table number (first + 1) len (later t) (omega (arith, high))))
  where
    later : same_key (column_key table first) (column_key table number) ≡ false → first + 1 ≤ number
    later t = elim (cases_eq first number) [
      | inl e ↦ yes_is_no (same_key (column_key table first) (column_key table number)) (ap (λ (m : ℕ). same_key (column_key table first) (column_key table m)) (sym e) ∙ ap is_eq (tied_itself keys_total (column_key table first))) t
      | inr e ↦ omega (arith, e, low)
    ]
