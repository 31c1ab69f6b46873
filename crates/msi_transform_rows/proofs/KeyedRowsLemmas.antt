-- Rows under keys: the map that its entries make, in the order of keys.
use Rattle.std.proofs.Common.{◌≡◌, Bool, true, false, cond, ◌&&◌, ◌||◌, List, [], ◌∷◌, ◌++◌, length, map, not, refl, sym, ap, subst, ◌∙◌, arith}
use Rattle.std.specs.Borrow.{Bor}
use Rattle.std.specs.Prelude.{Option, None, Some, T, is_some, option_copied}
use Rattle.std.specs.List.{AllByRecursion, list_any}
use Rattle.std.specs.BTreeMap.{is_at}
use Rattle.std.specs.Cmp.{IsTotalOrder, eq_by_cmp_equiv}
use Rattle.std.specs.Cmp.Lexicographic.{lists_total}
use Rattle.std.specs.FinMap.{FinMap, IsAntisymmetric, entries, entries-insert, entries_sorted, from_entries, from_entries_push, get, get-entries, get-from_entries, get-insert, get-remove, insert, len-empty, len-entries, remove, same_map, slice_cmp-IsAntisymmetric}
use Rattle.std.specs.FinMap.Entries.{below_all, find, find-where_key, is_some-find, is_sorted, is_sorted-where_key, same_entries}
use Rattle.std.specs.List.Sorted.{IsStrictlySortedBy}
use Rattle.std.specs.Map.{keys_of, lookup}
use Rattle.std.specs.Ordering.{eq_by_cmp, is_lt}
use Rattle.std.specs.declared.cmp.Ordering.TheVariants.{Less}
use Rattle.std.proofs.lemmas.Bool.{or_right}
use Rattle.std.proofs.lemmas.List.{append_assoc}
use Rattle.msi_base.specs.Lists.{has_pair}
use Rattle.msi_table_values.specs.declared.value.Value.{Value}
use Rattle.msi_table_values.specs.OrderLaws.{value_cmp-total, values_tie}
use Rattle.msi_table_cells.specs.KeyOrder.{same_key}
use Rattle.msi_pool.specs.Pool.{Place}
use Rattle.msi_table_values.specs.Columns.{ColumnDef}
use Rattle.msi_table_cells.specs.declared.cell.ValueRef.{ValueRef}
use Rattle.msi_table_cells.specs.CellValues.{row_values}
use Rattle.msi_table_cells.specs.KeyOrder.{key_of}
use Rattle.msi_database_changes.specs.KeySets.{keys_of_rows}
use Rattle.msi_database_changes.proofs.row_keys.KeySetLemmas.{key_again, key_once}
use Rattle.msi_transform_rows.specs.KeyOfRows.{key_cmp}
use Rattle.msi_transform_rows.specs.RowChanges.{Rows, by_key, cells_in_hand, cells_of, keyed, row_at, with_row_at, without_row_at}
use Rattle.msi_transform_rows.specs.declared.row.RowInHand.{RowInHand}

pub keys_total : IsTotalOrder key_cmp
keys_total = lists_total value_cmp-total

-- only equal keys tie
pub exact_keys : IsAntisymmetric key_cmp
exact_keys = slice_cmp-IsAntisymmetric values_tie

abbrev pub KeyMap : Type 0
KeyMap = FinMap key_cmp RowInHand

find_is_lookup : (q : List Value) (es : Rows) → find key_cmp q es ≡ lookup (is_at (key_cmp q)) es
find_is_lookup q [] = refl
find_is_lookup q (e ∷ es) = ap (cond (is_at (key_cmp q) e.0) (Some e.1)) (find_is_lookup q es)

get_is_lookup : (es : Rows) (q : List Value) → get (from_entries {R = key_cmp} es) q ≡ lookup (is_at (key_cmp q)) es
get_is_lookup es q = get-from_entries keys_total es q ∙ find_is_lookup q es

-- what the map of entries has at a key
pub row_of_entries : (es : Rows) (m : KeyMap) (q : List Value) → from_entries es ≡ m → lookup (is_at (key_cmp q)) es ≡ row_at q (entries m)
row_of_entries es m q is = sym (get_is_lookup es q) ∙ ap (λ (n : KeyMap). get n q) is ∙ get-entries m q

none_left : (es : Rows) → length es ≡ 0 → es ≡ []
none_left [] e = refl
none_left (x ∷ es) e = absurd (omega arith)

pub no_entries : entries {X = RowInHand} {R = key_cmp} (from_entries []) ≡ []
no_entries = none_left (entries {X = RowInHand} {R = key_cmp} (from_entries [])) (sym (len-entries {X = RowInHand} {R = key_cmp} (from_entries [])) ∙ len-empty key_cmp RowInHand)

updated_map : (es fs : Rows) (k : List Value) (v : RowInHand) → ((q : List Value) → lookup (is_at (key_cmp q)) fs ≡ cond (is_at (key_cmp k) q) (Some v) (lookup (is_at (key_cmp q)) es))
    → from_entries {R = key_cmp} fs ≡ insert (from_entries es) k v
updated_map es fs k v updates = same_map keys_total exact_keys _ _ (λ q.
    get_is_lookup fs q ∙ updates q
    ∙ ap (λ b. cond b (Some v) (lookup (is_at (key_cmp q)) es)) ((eq_by_cmp_equiv keys_total).symm k q)
    ∙ sym (get-insert keys_total (from_entries es) k v q ∙ ap (cond (eq_by_cmp key_cmp q k) (Some v)) (get_is_lookup es q)))

removed_map : (es fs : Rows) (k : List Value) → ((q : List Value) → lookup (is_at (key_cmp q)) fs ≡ cond (is_at (key_cmp k) q) None (lookup (is_at (key_cmp q)) es))
    → from_entries {R = key_cmp} fs ≡ remove (from_entries es) k
removed_map es fs k updates = same_map keys_total exact_keys _ _ (λ q.
    get_is_lookup fs q ∙ updates q
    ∙ ap (λ b. cond b None (lookup (is_at (key_cmp q)) es)) ((eq_by_cmp_equiv keys_total).symm k q)
    ∙ sym (get-remove keys_total (from_entries es) k q ∙ ap (cond (eq_by_cmp key_cmp q k) None) (get_is_lookup es q)))

-- entries with a row at one key, and else as they were
pub entries_updated : (es fs : Rows) (m : KeyMap) (k : List Value) (v : RowInHand) → from_entries es ≡ m
    → ((q : List Value) → lookup (is_at (key_cmp q)) fs ≡ cond (is_at (key_cmp k) q) (Some v) (lookup (is_at (key_cmp q)) es))
    → entries (from_entries {R = key_cmp} fs) ≡ with_row_at k v (entries m)
entries_updated es fs m k v is updates = ap entries (updated_map es fs k v updates ∙ ap (λ (n : KeyMap). insert n k v) is) ∙ entries-insert keys_total m k v

turned : (b : Bool) (x : Option RowInHand) → cond b None x ≡ cond (not b) x None
turned true x = refl
turned false x = refl

entries-remove : (m : KeyMap) (k : List Value) → entries (remove m k) ≡ without_row_at k (entries m)
entries-remove m k =
    let stays = λ (x : List Value). not (eq_by_cmp key_cmp k x) in
    same_entries key_cmp keys_total exact_keys (entries (remove m k)) (without_row_at k (entries m))
    (entries_sorted (remove m k)) (is_sorted-where_key key_cmp stays (entries m) (entries_sorted m))
    (λ q. sym (get-entries (remove m k) q) ∙ get-remove keys_total m k q
    ∙ ap (λ b. cond b None (get m q)) ((eq_by_cmp_equiv keys_total).symm q k)
    ∙ ap (cond (eq_by_cmp key_cmp k q) None) (get-entries m q) ∙ turned (eq_by_cmp key_cmp k q) (find key_cmp q (entries m))
    ∙ sym (find-where_key key_cmp stays q (λ x e. ap stays (sym (exact_keys q x e))) (entries m)))

-- entries with nothing at one key, and else as they were
pub entries_removed : (es fs : Rows) (m : KeyMap) (k : List Value) → from_entries es ≡ m
    → ((q : List Value) → lookup (is_at (key_cmp q)) fs ≡ cond (is_at (key_cmp k) q) None (lookup (is_at (key_cmp q)) es))
    → entries (from_entries {R = key_cmp} fs) ≡ without_row_at k (entries m)
entries_removed es fs m k is updates = ap entries (removed_map es fs k updates ∙ ap (λ (n : KeyMap). remove n k) is) ∙ entries-remove m k

both : (a b : Bool) → T a → T b → T (a && b)
both true b p q = q
both false b p q = p

below_each : (x : List Value) (es : Rows) → AllByRecursion (λ y. key_cmp x y ≡ Less) (keys_of es) → T (below_all key_cmp x es)
below_each x [] h = tt
below_each x (e ∷ es) h = both _ _ (subst (λ p. T (is_lt p)) (sym h.0) tt) (below_each x es h.1)

sorted_entries : (es : Rows) → IsStrictlySortedBy key_cmp (keys_of es) → T (is_sorted key_cmp es)
unfolding IsStrictlySortedBy
sorted_entries [] h = tt
sorted_entries (e ∷ es) h = both _ _ (below_each e.0 es h.0) (sorted_entries es h.1)

-- entries in the order of their keys are those of their map
pub entries_in_order : (es : Rows) (m : KeyMap) → from_entries es ≡ m → IsStrictlySortedBy key_cmp (keys_of es) → es ≡ entries m
entries_in_order es m is h =
    sym (same_entries key_cmp keys_total exact_keys _ es (entries_sorted (from_entries es)) (sorted_entries es h)
    (λ q. sym (get-entries (from_entries es) q) ∙ get-from_entries keys_total es q)) ∙ ap entries is

-- ROWS PUT ONE AFTER THE OTHER

entries_by_key : (es : Rows) → entries (from_entries {R = key_cmp} es) ≡ by_key es
entries_by_key [] = no_entries
entries_by_key (e ∷ es) = entries-insert keys_total (from_entries es) e.0 e.1 ∙ ap (with_row_at e.0 e.1) (entries_by_key es)

find_by_key : (es : Rows) (k : List Value) → row_at k (by_key es) ≡ find key_cmp k es
find_by_key es k = ap (row_at k) (sym (entries_by_key es)) ∙ sym (get-entries (from_entries es) k) ∙ get-from_entries keys_total es k

abbrev pub keys_in : Rows → List (List Value)
keys_in es = map (λ e. e.0) es

is_there : (es : Rows) (k : List Value) → is_some (row_at k (by_key es)) ≡ list_any (same_key k) (keys_in es)
is_there es k = ap is_some (find_by_key es k) ∙ is_some-find key_cmp k es

keys_pushed : (es : Rows) (k : List Value) (v : RowInHand) → keys_in (es ++ (k, v) ∷ []) ≡ keys_in es ++ k ∷ []
keys_pushed [] k v = refl
keys_pushed (e ∷ es) k v = ap (λ (ks : List (List Value)). e.0 ∷ ks) (keys_pushed es k v)

nothing : (o : Option RowInHand) → is_some o ≡ false → o ≡ None
nothing None h = refl
nothing (Some x) h = absurd (subst T h tt)

-- one more row, whose key is new
pub by_key_pushed : (es : Rows) (k : List Value) (v : RowInHand) → is_some (row_at k (by_key es)) ≡ false → with_row_at k v (by_key es) ≡ by_key (es ++ (k, v) ∷ [])
by_key_pushed es k v h =
    ap (with_row_at k v) (sym (entries_by_key es)) ∙ sym (entries-insert keys_total (from_entries es) k v)
    ∙ ap entries (sym (from_entries_push keys_total exact_keys es k v (sym (find_by_key es k) ∙ nothing _ h)))
    ∙ entries_by_key (es ++ (k, v) ∷ [])

pub keys_stay_apart : (es : Rows) (k : List Value) (v : RowInHand) → is_some (row_at k (by_key es)) ≡ false → has_pair same_key (keys_in es) ≡ false
    → has_pair same_key (keys_in (es ++ (k, v) ∷ [])) ≡ false
keys_stay_apart es k v h apart = ap (has_pair same_key) (keys_pushed es k v) ∙ key_once (keys_in es) k (sym (is_there es k) ∙ h) ∙ apart

any_in_front : (p : List Value → Bool) (ks ls : List (List Value)) → list_any p ks ≡ true → list_any p (ks ++ ls) ≡ true
any_in_front p [] ls h = absurd (subst T (sym h) tt)
any_in_front p (k ∷ ks) ls h = elim (p k) as (λ b. (b || list_any p ks) ≡ true → (b || list_any p (ks ++ ls)) ≡ true) [
  | true ↦ λ _. refl
  | false ↦ λ i. any_in_front p ks ls i
] h

pair_in_front : (ks ls : List (List Value)) → has_pair same_key ks ≡ true → has_pair same_key (ks ++ ls) ≡ true
pair_in_front [] ls h = absurd (subst T (sym h) tt)
pair_in_front (k ∷ ks) ls h = elim (list_any (same_key k) ks) as (λ b. list_any (same_key k) ks ≡ b → (b || has_pair same_key ks) ≡ true → (list_any (same_key k) (ks ++ ls) || has_pair same_key (ks ++ ls)) ≡ true) [
  | true ↦ λ e _. ap (λ b. b || has_pair same_key (ks ++ ls)) (any_in_front (same_key k) ks ls e)
  | false ↦ λ _ i. ap (λ b. list_any (same_key k) (ks ++ ls) || b) (pair_in_front ks ls i) ∙ or_right _ true refl
] refl h

keys_joined : (es fs : Rows) → keys_in (es ++ fs) ≡ keys_in es ++ keys_in fs
keys_joined [] fs = refl
keys_joined (e ∷ es) fs = ap (λ (ks : List (List Value)). e.0 ∷ ks) (keys_joined es fs)

-- and one whose key was there
pub key_shared : (es : Rows) (k : List Value) (v : RowInHand) (fs : Rows) → is_some (row_at k (by_key es)) ≡ true
    → has_pair same_key (keys_in ((es ++ (k, v) ∷ []) ++ fs)) ≡ true
key_shared es k v fs h =
    ap (has_pair same_key) (keys_joined (es ++ (k, v) ∷ []) fs)
    ∙ pair_in_front (keys_in (es ++ (k, v) ∷ [])) (keys_in fs)
    (ap (has_pair same_key) (keys_pushed es k v) ∙ key_again (keys_in es) k (sym (is_there es k) ∙ h))

-- ROWS OF A TABLE, EACH WITH ITS KEY

map_joined : {A B : Type 0} (f : A → B) (xs ys : List A) → map f (xs ++ ys) ≡ map f xs ++ map f ys
map_joined f [] ys = refl
map_joined {B = B} f (x ∷ xs) ys = ap (λ (zs : List B). f x ∷ zs) (map_joined f xs ys)

module _ (columns : List ColumnDef) (places : List Place) where
  keys_are : (rows : List RowInHand) → keys_in (map (keyed columns places) rows) ≡ keys_of_rows places columns (cells_in_hand rows)
  keys_are [] = refl
  keys_are (row ∷ rows) = ap (λ (ks : List (List Value)). key_of columns (row_values places row.cells) ∷ ks) (keys_are rows)

  abbrev pub KeysAreApart : List RowInHand → Type 0
  KeysAreApart rows = has_pair same_key (keys_of_rows places columns (cells_in_hand rows)) ≡ false

  module _ (yielded : List RowInHand) (row : RowInHand) (key : List Value) (key_is : key ≡ key_of columns (row_values places row.cells)) where
    abbrev before : Rows
    before = map (keyed columns places) yielded

    one_more : map (keyed columns places) (yielded ++ row ∷ []) ≡ before ++ (key, row) ∷ []
    one_more = map_joined (keyed columns places) yielded (row ∷ []) ∙ ap (λ (k : List Value). before ++ (k, row) ∷ []) (sym key_is)

    pub row_pushed : is_some (row_at key (by_key before)) ≡ false → with_row_at key row (by_key before) ≡ by_key (map (keyed columns places) (yielded ++ row ∷ []))
    row_pushed h = by_key_pushed before key row h ∙ ap by_key (sym one_more)

    pub rows_stay_apart : is_some (row_at key (by_key before)) ≡ false → KeysAreApart yielded → KeysAreApart (yielded ++ row ∷ [])
    rows_stay_apart h apart =
        ap (has_pair same_key) (sym (keys_are (yielded ++ row ∷ [])) ∙ ap keys_in one_more)
        ∙ keys_stay_apart before key row h (ap (has_pair same_key) (keys_are yielded) ∙ apart)

    pub row_shares : (rest : List RowInHand) → is_some (row_at key (by_key before)) ≡ true
        → has_pair same_key (keys_of_rows places columns (cells_in_hand ((yielded ++ row ∷ []) ++ rest))) ≡ true
    row_shares rest h =
        ap (has_pair same_key) (sym (keys_are ((yielded ++ row ∷ []) ++ rest)) ∙ ap keys_in (map_joined (keyed columns places) (yielded ++ row ∷ []) rest
        ∙ ap (λ (es : Rows). es ++ map (keyed columns places) rest) one_more))
        ∙ key_shared before key row (map (keyed columns places) rest) h

-- what is left, after one more
pub yielded_more : (rows yielded rest left : List RowInHand) (row : RowInHand) → rows ≡ yielded ++ rest → rest ≡ row ∷ left → rows ≡ (yielded ++ row ∷ []) ++ left
yielded_more rows yielded rest left row whole is = whole ∙ ap (λ (rs : List RowInHand). yielded ++ rs) is ∙ sym (append_assoc yielded (row ∷ []) left)

pub is_some-copied : (o : Option (Bor RowInHand)) → is_some (option_copied o) ≡ is_some o
is_some-copied None = refl
is_some-copied (Some x) = refl

-- rows behind none
pub no_rows_before : (rows others : Rows) → rows ≡ [] → rows ++ others ≡ others
no_rows_before rows others none = ap (λ (before : Rows). before ++ others) none
