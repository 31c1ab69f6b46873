-- Pairs of the same rows change no record: what is found at each key tells which records there are.
use Rattle.std.proofs.Common.{◌≡◌, ℕ, ◌+◌, ◌⊎◌, Bool, true, false, cond, not, ◌&&◌, List, [], ◌∷◌, ◌++◌, length, map, refl, sym, ap, ◌∙◌, inl, inr, zip, Option, Some, None}
use Rattle.std.specs.Prelude.{T, if◌then◌else◌, filter, filter_map, is_some, nat_lt, option_and_then}
use Rattle.std.specs.Cmp.{tied_itself}
use Rattle.std.specs.FinMap.{find, is_sorted}
use Rattle.std.specs.FinMap.Entries.{below_all, find-put, is_some-find, is_sorted-put, same_entries}
use Rattle.std.specs.List.{cons_option, enumerate_from, list_any}
use Rattle.std.specs.Option.{option_map_or}
use Rattle.std.specs.Ordering.{eq_by_cmp, is_eq, is_lt}
use Rattle.std.specs.declared.cmp.Ordering.{Ordering}
use Rattle.std.specs.declared.cmp.Ordering.TheVariants.{Less, Equal, Greater}
use Rattle.std.proofs.lemmas.Bool.{or_parts}
use Rattle.std.proofs.lemmas.Slice.Eq.{bytes_eq-Decides}
use Rattle.msi_base.specs.Lists.{has_pair}
use Rattle.msi_base.proofs.BoolLemmas.{by_test, T_parts}
use Rattle.msi_table_cells.specs.KeyOrder.{same_key}
use Rattle.msi_table_values.specs.declared.value.Value.{Value}
use Rattle.msi_table_values.specs.declared.value.Value.TheVariants as value
use Rattle.msi_table_values.specs.Columns.{ColumnDef}
use Rattle.msi_table_values.specs.OrderLaws.{value_cmp-total}
use Rattle.msi_transform_applying.specs.Applying.{same_stream}
use Rattle.msi_transform_rows.specs.KeyOfRows.{key_cmp}
use Rattle.msi_transform_making.specs.LeftOut.{AreLeft, Values, nothing, of_new, of_old, pair}
use Rattle.msi_transform_making.specs.Making.{ToldRecord, ToldRow, ToldRows, addition, additions, by_keys, can_be_marked, change_of_row, changes, changing, differences, differing, is_replaced, removal, removals, same_value}
use Rattle.msi_transform_pair.proofs.ToldRowsLemmas.{exact_keys, keys_tie, keys_total}

-- WHAT IS FOUND AT A KEY

abbrev pub row_at : List Value → ToldRows → Option ToldRow
row_at q es = find key_cmp q es

abbrev pub keys_in : ToldRows → List (List Value)
keys_in es = map (λ e. e.0) es

not_some : {X : Type 0} (o : Option X) → is_some o ≡ false → o ≡ None
not_some None e = refl
not_some (Some x) e = cc

pub found_by_keys : (q : List Value) (es : ToldRows) → row_at q (by_keys es) ≡ row_at q es
found_by_keys q [] = refl
found_by_keys q (e ∷ es) = find-put key_cmp keys_total q e.0 e.1 (by_keys es) ∙ ap (cond (eq_by_cmp key_cmp q e.0) (Some e.1)) (found_by_keys q es)

pub sorted_by_keys : (es : ToldRows) → T (is_sorted key_cmp (by_keys es))
sorted_by_keys [] = tt
sorted_by_keys (e ∷ es) = is_sorted-put key_cmp keys_total e.0 e.1 (by_keys es) (sorted_by_keys es)

-- a key that no row has
absent : (key : List Value) (es : ToldRows) → list_any (same_key key) (keys_in es) ≡ false → (q : List Value) → eq_by_cmp key_cmp q key ≡ true → row_at q es ≡ None
absent key es none q tied =
    ap (λ (k : List Value). row_at k es) (keys_tie q key tied) ∙ not_some (row_at key es) (is_some-find key_cmp key es ∙ none)

-- WHAT IS LEFT, KEY BY KEY

-- as it was on both sides, or the same on both and left out
abbrev pub Agree : Option ToldRow → Option ToldRow → Option ToldRow → Option ToldRow → Type 0
Agree s t u v = ((u ≡ s) × (v ≡ t)) ⊎ ((s ≡ t) × (u ≡ None) × (v ≡ None))

agree_pair : (b : Bool) (row : ToldRow) (s t u v : Option ToldRow) → Agree s t u v → (b ≡ true → s ≡ None) → (b ≡ true → t ≡ None)
    → Agree (cond b (Some row) s) (cond b (Some row) t) u v
agree_pair true row s t u v (inl a) m n = inr (refl, a.0 ∙ m refl, a.1 ∙ n refl)
agree_pair true row s t u v (inr a) m n = inr (refl, a.1, a.2)
agree_pair false row s t u v a m n = a

agree_old : (b : Bool) (row : ToldRow) (s t u v : Option ToldRow) → Agree s t u v → (b ≡ true → s ≡ None) → Agree (cond b (Some row) s) t (cond b (Some row) u) v
agree_old true row s t u v (inl a) m = inl (refl, a.1)
agree_old true row s t u v (inr a) m = inl (refl, a.2 ∙ sym (m refl) ∙ a.0)
agree_old false row s t u v a m = a

agree_new : (b : Bool) (row : ToldRow) (s t u v : Option ToldRow) → Agree s t u v → (b ≡ true → t ≡ None) → Agree s (cond b (Some row) t) u (cond b (Some row) v)
agree_new true row s t u v (inl a) n = inl (a.0, refl)
agree_new true row s t u v (inr a) n = inl (a.1 ∙ sym (n refl) ∙ sym a.0, refl)
agree_new false row s t u v a n = a

-- rows under keys of their own
module _ (f : List Value → List Value × ToldRow) where
  abbrev pub HaveOwnKeys : Values → Type 0
  HaveOwnKeys rows = has_pair same_key (keys_in (map f rows)) ≡ false

  first_apart : (row : List Value) (rows : Values) → HaveOwnKeys (row ∷ rows) → (q : List Value) → eq_by_cmp key_cmp q (f row).0 ≡ true → row_at q (map f rows) ≡ None
  first_apart row rows own = absent (f row).0 (map f rows) (or_parts (list_any (same_key (f row).0) (keys_in (map f rows))) (has_pair same_key (keys_in (map f rows))) own).0

  others_apart : (row : List Value) (rows : Values) → HaveOwnKeys (row ∷ rows) → HaveOwnKeys rows
  others_apart row rows own = (or_parts (list_any (same_key (f row).0) (keys_in (map f rows))) (has_pair same_key (keys_in (map f rows))) own).1

  pub left_agree : {old new left others : Values} → AreLeft old new left others → HaveOwnKeys old → HaveOwnKeys new → (q : List Value)
      → Agree (row_at q (map f old)) (row_at q (map f new)) (row_at q (map f left)) (row_at q (map f others))
  left_agree nothing m n q = inl (refl, refl)
  left_agree (pair row {old = old} {new = new} {left = left} {others = others} is) m n q =
      agree_pair (eq_by_cmp key_cmp q (f row).0) (f row).1 (row_at q (map f old)) (row_at q (map f new)) (row_at q (map f left)) (row_at q (map f others))
      (left_agree is (others_apart row old m) (others_apart row new n) q) (first_apart row old m q) (first_apart row new n q)
  left_agree (of_old row {old = old} {new = new} {left = left} {others = others} is) m n q =
      agree_old (eq_by_cmp key_cmp q (f row).0) (f row).1 (row_at q (map f old)) (row_at q (map f new)) (row_at q (map f left)) (row_at q (map f others))
      (left_agree is (others_apart row old m) n q) (first_apart row old m q)
  left_agree (of_new row {old = old} {new = new} {left = left} {others = others} is) m n q =
      agree_new (eq_by_cmp key_cmp q (f row).0) (f row).1 (row_at q (map f old)) (row_at q (map f new)) (row_at q (map f left)) (row_at q (map f others))
      (left_agree is m (others_apart row new n) q) (first_apart row new n q)

-- ROWS THAT ARE TOLD, FOUND BY THEIR KEYS

both_hold : (a b : Bool) → T a → T b → T (a && b)
both_hold true b p q = q
both_hold false b p q = p

not_tied : (o : Ordering) → T (is_lt o) → is_eq o ≡ false
not_tied Less h = refl
not_tied Equal h = absurd h
not_tied Greater h = refl

above_absent : (x : List Value) (es : ToldRows) → T (below_all key_cmp x es) → list_any (same_key x) (keys_in es) ≡ false
above_absent x [] h = refl
above_absent x (e ∷ es) h =
    let p = T_parts (is_lt (key_cmp x e.0)) (below_all key_cmp x es) h in
    rw (not_tied (key_cmp x e.0) p.0, above_absent x es p.1) refl

module _ {Y : Type 0} (f : List Value × ToldRow → Option Y) where
  abbrev put_told : List Value → Option Y → List (List Value × Y) → List (List Value × Y)
  put_told k None ps = ps
  put_told k (Some y) ps = (k, y) ∷ ps

  abbrev told_pairs : ToldRows → List (List Value × Y)
  told_pairs [] = []
  told_pairs (e ∷ es) = put_told e.0 (f e) (told_pairs es)

  abbrev pub told_at : List Value → Option ToldRow → Option Y
  told_at q o = option_and_then (λ row. f (q, row)) o

  value_told : (o : Option Y) (k : List Value) (ps : List (List Value × Y)) (ys : List Y) → map (λ p. p.1) ps ≡ ys → map (λ p. p.1) (put_told k o ps) ≡ cons_option o ys
  value_told None k ps ys e = e
  value_told (Some y) k ps ys e = ap (λ (zs : List Y). y ∷ zs) e

  values_told : (es : ToldRows) → map (λ p. p.1) (told_pairs es) ≡ filter_map f es
  values_told [] = refl
  values_told (e ∷ es) = value_told (f e) e.0 (told_pairs es) (filter_map f es) (values_told es)

  below_put : (o : Option Y) (x k : List Value) (ps : List (List Value × Y)) → T (is_lt (key_cmp x k)) → T (below_all key_cmp x ps) → T (below_all key_cmp x (put_told k o ps))
  below_put None x k ps l h = h
  below_put (Some y) x k ps l h = both_hold (is_lt (key_cmp x k)) (below_all key_cmp x ps) l h

  below_told : (x : List Value) (es : ToldRows) → T (below_all key_cmp x es) → T (below_all key_cmp x (told_pairs es))
  below_told x [] h = tt
  below_told x (e ∷ es) h =
      let p = T_parts (is_lt (key_cmp x e.0)) (below_all key_cmp x es) h in
      below_put (f e) x e.0 (told_pairs es) p.0 (below_told x es p.1)

  sorted_put : (o : Option Y) (k : List Value) (ps : List (List Value × Y)) → T (below_all key_cmp k ps) → T (is_sorted key_cmp ps) → T (is_sorted key_cmp (put_told k o ps))
  sorted_put None k ps b h = h
  sorted_put (Some y) k ps b h = both_hold (below_all key_cmp k ps) (is_sorted key_cmp ps) b h

  sorted_told : (es : ToldRows) → T (is_sorted key_cmp es) → T (is_sorted key_cmp (told_pairs es))
  sorted_told [] h = tt
  sorted_told (e ∷ es) h =
      let p = T_parts (below_all key_cmp e.0 es) (is_sorted key_cmp es) h in
      sorted_put (f e) e.0 (told_pairs es) (below_told e.0 es p.0) (sorted_told es p.1)

  found_put : (q k : List Value) (row : ToldRow) (ps : List (List Value × Y)) (u : Option ToldRow) (o : Option Y) (b : Bool) → f (k, row) ≡ o → eq_by_cmp key_cmp q k ≡ b
      → (b ≡ true → u ≡ None) → find key_cmp q ps ≡ told_at q u → find key_cmp q (put_told k o ps) ≡ told_at q (cond b (Some row) u)
  found_put q k row ps u None true is tied none rest = rest ∙ ap (told_at q) (none refl) ∙ sym (ap (λ (x : List Value). f (x, row)) (keys_tie q k tied) ∙ is)
  found_put q k row ps u None false is tied none rest = rest
  found_put q k row ps u (Some y) true is tied none rest =
      ap (λ (b : Bool). cond b (Some y) (find key_cmp q ps)) tied ∙ sym (ap (λ (x : List Value). f (x, row)) (keys_tie q k tied) ∙ is)
  found_put q k row ps u (Some y) false is tied none rest = ap (λ (b : Bool). cond b (Some y) (find key_cmp q ps)) tied ∙ rest

  found_told : (q : List Value) (es : ToldRows) → T (is_sorted key_cmp es) → find key_cmp q (told_pairs es) ≡ told_at q (row_at q es)
  found_told q [] h = refl
  found_told q (e ∷ es) h =
      let p = T_parts (below_all key_cmp e.0 es) (is_sorted key_cmp es) h in
      found_put q e.0 e.1 (told_pairs es) (row_at q es) (f e) (eq_by_cmp key_cmp q e.0) refl refl
      (absent e.0 es (above_absent e.0 es p.0) q) (found_told q es p.1)

same_told : {Y : Type 0} (f g : List Value × ToldRow → Option Y) (es fs : ToldRows) → T (is_sorted key_cmp es) → T (is_sorted key_cmp fs)
    → ((q : List Value) → told_at f q (row_at q es) ≡ told_at g q (row_at q fs)) → filter_map f es ≡ filter_map g fs
same_told {Y = Y} f g es fs s t same =
    sym (values_told f es)
    ∙ ap (λ (ps : List (List Value × Y)). map (λ p. p.1) ps)
    (same_entries key_cmp keys_total exact_keys (told_pairs f es) (told_pairs g fs) (sorted_told f es s) (sorted_told g fs t)
    (λ q. found_told f q es s ∙ same q ∙ sym (found_told g q fs t)))
    ∙ values_told g fs

-- A ROW BESIDE ITSELF

value_itself : (v : Value) → same_value true (v, v) ≡ true
value_itself value.Null = refl
value_itself (value.Int n) = ap is_eq (tied_itself value_cmp-total (value.Int n))
value_itself (value.Str s) = ap is_eq (tied_itself value_cmp-total (value.Str s))
value_itself value.Binary = refl

stream_itself : (stream : Option (List ℕ)) → same_stream stream stream ≡ true
stream_itself None = refl
stream_itself (Some bytes) = (bytes_eq-Decides bytes bytes).1 refl

values_themselves : (n : ℕ) (vs : List Value) → map (λ e. e.0) (filter (λ e. not (same_value true e.1)) (enumerate_from n (zip vs vs))) ≡ []
values_themselves n [] = refl
values_themselves n (v ∷ vs) = rw (value_itself v) (values_themselves (n + 1) vs)

row_itself : (row : ToldRow) → differing row row ≡ []
row_itself row =
    ap (λ (same : Bool). map (λ e. e.0) (filter (λ e. not (same_value same e.1)) (enumerate_from 0 (zip row.values row.values)))) (stream_itself row.stream)
    ∙ values_themselves 0 row.values

-- RECORDS, KEY BY KEY

picked : {X Y : Type 0} (p : X → Bool) (h : X → Y) (xs : List X) → map h (filter p xs) ≡ filter_map (λ x. cond (p x) (Some (h x)) None) xs
picked p h [] = refl
picked {Y = Y} p h (x ∷ xs) = by_test (p x) (λ t. rw t (ap (λ (ys : List Y). h x ∷ ys) (picked p h xs))) (λ t. rw t (picked p h xs))

-- of the old row and the new one of a key
abbrev AtKey : Type 0
AtKey = List Value → Option ToldRow → Option ToldRow → Option ToldRecord

abbrev has_replaced : Option ToldRow → ToldRow → Bool
has_replaced others row = option_map_or (λ other. not (can_be_marked (differing other row))) others true

abbrev removal_at : AtKey
removal_at q old new = option_and_then (λ row. cond (has_replaced new row) (Some (removal q)) None) old

abbrev addition_at : AtKey
addition_at q old new = option_and_then (λ row. cond (has_replaced old row) (Some (addition (q, row))) None) new

abbrev change_by : List ColumnDef → List ℕ → List Value × ToldRow → Option ToldRecord
change_by columns marked e = if can_be_marked marked && nat_lt 0 (length marked) then Some (changing columns marked e) else None

abbrev change_at : List ColumnDef → AtKey
change_at columns q old new = option_and_then (λ row. option_and_then (λ other. change_by columns (differing other row) (q, row)) old) new

no_removal : (q : List Value) (o : Option ToldRow) → removal_at q o o ≡ None
no_removal q None = refl
no_removal q (Some row) = ap (λ (is : List ℕ). cond (not (can_be_marked is)) (Some (removal q)) None) (row_itself row)

no_addition : (q : List Value) (o : Option ToldRow) → addition_at q o o ≡ None
no_addition q None = refl
no_addition q (Some row) = ap (λ (is : List ℕ). cond (not (can_be_marked is)) (Some (addition (q, row))) None) (row_itself row)

no_change : (columns : List ColumnDef) (q : List Value) (o : Option ToldRow) → change_at columns q o o ≡ None
no_change columns q None = refl
no_change columns q (Some row) = ap (λ (is : List ℕ). change_by columns is (q, row)) (row_itself row)

same_at : (at : AtKey) → ((q : List Value) (o : Option ToldRow) → at q o o ≡ None) → (q : List Value) (s t u v : Option ToldRow) → Agree s t u v → at q s t ≡ at q u v
same_at at none q s t u v (inl a) = λ i. at q (sym a.0 i) (sym a.1 i)
same_at at none q s t u v (inr a) = ap (λ (o : Option ToldRow). at q o t) a.0 ∙ none q t ∙ sym (none q None) ∙ (λ i. at q (sym a.1 i) (sym a.2 i))

module _ (columns : List ColumnDef) (es fs gs hs : ToldRows) (s : T (is_sorted key_cmp es)) (t : T (is_sorted key_cmp fs)) (u : T (is_sorted key_cmp gs)) (v : T (is_sorted key_cmp hs))
    (agree : (q : List Value) → Agree (row_at q es) (row_at q fs) (row_at q gs) (row_at q hs)) where
  at_each : (at : AtKey) → ((q : List Value) (o : Option ToldRow) → at q o o ≡ None) → (q : List Value) → at q (row_at q es) (row_at q fs) ≡ at q (row_at q gs) (row_at q hs)
  at_each at none q = same_at at none q (row_at q es) (row_at q fs) (row_at q gs) (row_at q hs) (agree q)

  same_removals : removals es fs ≡ removals gs hs
  same_removals =
      picked {X = List Value × ToldRow} {Y = ToldRecord} (is_replaced fs) (λ e. removal e.0) es
      ∙ same_told {Y = ToldRecord} (λ e. cond (is_replaced fs e) (Some (removal e.0)) None) (λ e. cond (is_replaced hs e) (Some (removal e.0)) None) es gs s u (at_each removal_at no_removal)
      ∙ sym (picked {X = List Value × ToldRow} {Y = ToldRecord} (is_replaced hs) (λ e. removal e.0) gs)

  same_additions : additions es fs ≡ additions gs hs
  same_additions =
      picked {X = List Value × ToldRow} {Y = ToldRecord} (is_replaced es) addition fs
      ∙ same_told {Y = ToldRecord} (λ e. cond (is_replaced es e) (Some (addition e)) None) (λ e. cond (is_replaced gs e) (Some (addition e)) None) fs hs t v (at_each addition_at no_addition)
      ∙ sym (picked {X = List Value × ToldRow} {Y = ToldRecord} (is_replaced gs) addition hs)

  same_changes : changes columns es fs ≡ changes columns gs hs
  same_changes = same_told {Y = ToldRecord} (change_of_row columns es) (change_of_row columns gs) fs hs t v (at_each (change_at columns) (no_change columns))

  same_differences : differences columns es fs ≡ differences columns gs hs
  same_differences = λ i. same_removals i ++ same_changes i ++ same_additions i

-- the records of rows of which pairs were left out
pub left_differences : (columns : List ColumnDef) (f g : List Value → List Value × ToldRow) → ((row : List Value) → f row ≡ g row) → (old new left others : Values)
    → AreLeft old new left others → HaveOwnKeys f old → HaveOwnKeys g new
    → differences columns (by_keys (map f old)) (by_keys (map g new)) ≡ differences columns (by_keys (map f left)) (by_keys (map g others))
left_differences columns f g same old new left others is m n =
    let turned : (rows : Values) → map g rows ≡ map f rows = λ rows i. map (λ row. sym (same row) i) rows in
    let own : HaveOwnKeys f new = ap (λ (es : ToldRows). has_pair same_key (keys_in es)) (sym (turned new)) ∙ n in
    ap (λ (es : ToldRows). differences columns (by_keys (map f old)) (by_keys es)) (turned new)
    ∙ same_differences columns (by_keys (map f old)) (by_keys (map f new)) (by_keys (map f left)) (by_keys (map f others))
    (sorted_by_keys (map f old)) (sorted_by_keys (map f new)) (sorted_by_keys (map f left)) (sorted_by_keys (map f others))
    (λ q. rw (found_by_keys q (map f old), found_by_keys q (map f new), found_by_keys q (map f left), found_by_keys q (map f others)) (left_agree f is m own q))
    ∙ sym (ap (λ (es : ToldRows). differences columns (by_keys (map f left)) (by_keys es)) (turned others))
