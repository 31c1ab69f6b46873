-- Rows under keys: the map that its entries make, in the order of keys.
use Rattle.std.proofs.Common.{◌≡◌, ℕ, ◌+◌, ◌-◌, ◌<◌, Bool, true, false, cond, ◌&&◌, List, [], ◌∷◌, length, map, drop, get_or, refl, sym, ap, subst, ◌∙◌, arith}
use Rattle.std.specs.Prelude.{Some, T}
use Rattle.std.specs.List.{AllByRecursion}
use Rattle.std.specs.BTreeMap.{is_at}
use Rattle.std.specs.Cmp.{IsTotalOrder, eq_by_cmp_equiv}
use Rattle.std.specs.Cmp.Lexicographic.{lists_total}
use Rattle.std.specs.FinMap.{FinMap, IsAntisymmetric, entries, entries-insert, entries_sorted, from_entries, get, get-entries, get-from_entries, get-insert, insert, len-empty, len-entries, put, same_map, slice_cmp-IsAntisymmetric}
use Rattle.std.specs.FinMap.Entries.{below_all, find, is_sorted, same_entries}
use Rattle.std.specs.List.Sorted.{IsStrictlySortedBy}
use Rattle.std.specs.Map.{keys_of, lookup}
use Rattle.std.specs.Ordering.{eq_by_cmp, is_eq, is_lt}
use Rattle.std.specs.declared.cmp.Ordering.{Ordering}
use Rattle.std.specs.declared.cmp.Ordering.TheVariants.{Less, Equal, Greater}
use Rattle.std.proofs.lemmas.List.{drop_more}
use Rattle.msi_table_cells.specs.KeyOrder.{same_key}
use Rattle.msi_table_values.specs.declared.value.Value.{Value}
use Rattle.msi_table_values.specs.OrderLaws.{value_cmp-total, values_tie}
use Rattle.msi_transform_rows.specs.KeyOfRows.{key_cmp}
use Rattle.msi_transform_pair.specs.Pair.{ToldRow, ToldRows, by_keys}

pub keys_total : IsTotalOrder key_cmp
keys_total = lists_total value_cmp-total

pub exact_keys : IsAntisymmetric key_cmp
exact_keys = slice_cmp-IsAntisymmetric values_tie

tied : (o : Ordering) → is_eq o ≡ true → o ≡ Equal
tied Less e = cc
tied Equal e = refl
tied Greater e = cc

pub keys_tie : (a b : List Value) → same_key a b ≡ true → a ≡ b
keys_tie a b e = exact_keys a b (tied (key_cmp a b) e)

abbrev pub KeyMap : Type 0
KeyMap = FinMap key_cmp ToldRow

find_is_lookup : (q : List Value) (es : ToldRows) → find key_cmp q es ≡ lookup (is_at (key_cmp q)) es
find_is_lookup q [] = refl
find_is_lookup q (e ∷ es) = ap (cond (is_at (key_cmp q) e.0) (Some e.1)) (find_is_lookup q es)

get_is_lookup : (es : ToldRows) (q : List Value) → get (from_entries {R = key_cmp} es) q ≡ lookup (is_at (key_cmp q)) es
get_is_lookup es q = get-from_entries keys_total es q ∙ find_is_lookup q es

-- what the map of entries has at a key
pub row_of_entries : (es : ToldRows) (m : KeyMap) (q : List Value) → from_entries es ≡ m → lookup (is_at (key_cmp q)) es ≡ find key_cmp q (entries m)
row_of_entries es m q is = sym (get_is_lookup es q) ∙ ap (λ (n : KeyMap). get n q) is ∙ get-entries m q

none_left : (es : ToldRows) → length es ≡ 0 → es ≡ []
none_left [] e = refl
none_left (x ∷ es) e = absurd (omega arith)

pub no_entries : entries {X = ToldRow} {R = key_cmp} (from_entries []) ≡ []
no_entries = none_left (entries {X = ToldRow} {R = key_cmp} (from_entries [])) (sym (len-entries {X = ToldRow} {R = key_cmp} (from_entries [])) ∙ len-empty key_cmp ToldRow)

updated_map : (es fs : ToldRows) (k : List Value) (v : ToldRow) → ((q : List Value) → lookup (is_at (key_cmp q)) fs ≡ cond (is_at (key_cmp k) q) (Some v) (lookup (is_at (key_cmp q)) es))
    → from_entries {R = key_cmp} fs ≡ insert (from_entries es) k v
updated_map es fs k v updates = same_map keys_total exact_keys _ _ (λ q.
    get_is_lookup fs q ∙ updates q
    ∙ ap (λ b. cond b (Some v) (lookup (is_at (key_cmp q)) es)) ((eq_by_cmp_equiv keys_total).symm k q)
    ∙ sym (get-insert keys_total (from_entries es) k v q ∙ ap (cond (eq_by_cmp key_cmp q k) (Some v)) (get_is_lookup es q)))

-- entries with a row at one key, and else as they were
pub entries_updated : (es fs : ToldRows) (m : KeyMap) (k : List Value) (v : ToldRow) → from_entries es ≡ m
    → ((q : List Value) → lookup (is_at (key_cmp q)) fs ≡ cond (is_at (key_cmp k) q) (Some v) (lookup (is_at (key_cmp q)) es))
    → entries (from_entries {R = key_cmp} fs) ≡ put key_cmp k v (entries m)
entries_updated es fs m k v is updates = ap entries (updated_map es fs k v updates ∙ ap (λ (n : KeyMap). insert n k v) is) ∙ entries-insert keys_total m k v

both : (a b : Bool) → T a → T b → T (a && b)
both true b p q = q
both false b p q = p

below_each : (x : List Value) (es : ToldRows) → AllByRecursion (λ y. key_cmp x y ≡ Less) (keys_of es) → T (below_all key_cmp x es)
below_each x [] h = tt
below_each x (e ∷ es) h = both _ _ (subst (λ p. T (is_lt p)) (sym h.0) tt) (below_each x es h.1)

sorted_entries : (es : ToldRows) → IsStrictlySortedBy key_cmp (keys_of es) → T (is_sorted key_cmp es)
unfolding IsStrictlySortedBy
sorted_entries [] h = tt
sorted_entries (e ∷ es) h = both _ _ (below_each e.0 es h.0) (sorted_entries es h.1)

-- entries in the order of their keys are those of their map
pub entries_in_order : (es : ToldRows) (m : KeyMap) → from_entries es ≡ m → IsStrictlySortedBy key_cmp (keys_of es) → es ≡ entries m
entries_in_order es m is h =
    sym (same_entries key_cmp keys_total exact_keys _ es (entries_sorted (from_entries es)) (sorted_entries es h)
    (λ q. sym (get-entries (from_entries es) q) ∙ get-from_entries keys_total es q)) ∙ ap entries is

-- ONE BEFORE THE OTHERS, FROM THE LAST ON

pub last_rest : {X : Type 0} (xs : List X) (i : ℕ) (x : X) → i < length xs → x ≡ get_or xs (length xs - 1 - i) x → drop (length xs - (i + 1)) xs ≡ x ∷ drop (length xs - i) xs
last_rest {X = X} xs i x inside at =
    let j : length xs - (i + 1) ≡ length xs - 1 - i = omega arith in
    let next : length xs - 1 - i + 1 ≡ length xs - i = omega arith in
    let below : length xs - 1 - i < length xs = omega arith in
    ap (λ (n : ℕ). drop n xs) j ∙ drop_more xs (length xs - 1 - i) x below
    ∙ ap (λ (y : X). y ∷ drop (length xs - 1 - i + 1) xs) (sym at) ∙ ap (λ (n : ℕ). x ∷ drop n xs) next

pub row_put : {X Y : Type 0} (f : Y → List Value × ToldRow) (g : X → Y) (xs : List X) (i : ℕ) (x : X) (before after : ToldRows) (e : List Value × ToldRow) → i < length xs
    → x ≡ get_or xs (length xs - 1 - i) x → e ≡ f (g x) → before ≡ by_keys (map f (map g (drop (length xs - i) xs))) → after ≡ put key_cmp e.0 e.1 before
    → after ≡ by_keys (map f (map g (drop (length xs - (i + 1)) xs)))
row_put {X = X} f g xs i x before after e inside at is so_far p =
    p ∙ ap (put key_cmp e.0 e.1) so_far
    ∙ ap (λ (d : List Value × ToldRow). put key_cmp d.0 d.1 (by_keys (map f (map g (drop (length xs - i) xs))))) is
    ∙ ap (λ (ys : List X). by_keys (map f (map g ys))) (sym (last_rest xs i x inside at))
