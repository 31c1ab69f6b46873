-- The differences make the old rows the new ones.
use Rattle.std.proofs.Common.{◌≡◌, ℕ, ◌+◌, Bool, true, false, not, cond, ◌||◌, List, [], ◌∷◌, ◌++◌, length, map, filter, Option, Some, None, refl, sym, ap, ◌∙◌, subst, inl, inr, arith, append-nil, append_assoc, length-append}
use Rattle.std.specs.Prelude.{IsPermutation, is_none, option_and_then, slice_get, slice_set}
use Rattle.std.specs.List.{filter_map, fold, list_any}
use Rattle.std.specs.Option.{option_to_list}
use Rattle.std.proofs.lemmas.Bool.{or_parts}
use Rattle.std.proofs.lemmas.List.Sorted.{IsPermutation-append_right, IsPermutation-cons, IsPermutation-middle, IsPermutation-refl, IsPermutation-sym, IsPermutation-trans}
use Rattle.msi_base.specs.Lists.{has_pair}
use Rattle.msi_base.proofs.BoolLemmas.{by_test}
use Rattle.msi_base.proofs.ListLemmas.{In, In-slice_get, all_at, all_from, filter_all, list_any-map, none_pass, none_passes}
use Rattle.msi_table_values.specs.declared.value.Value.{Value}
use Rattle.msi_table_values.specs.Columns.{ColumnDef}
use Rattle.msi_table_cells.specs.KeyOrder.{key_of, same_key}
use Rattle.msi_table.specs.declared.comparing.Difference.{Difference}
use Rattle.msi_table.specs.Differences.{differences, each_from, new_with, of_new, of_old, old_with, place_of, stands_at}
use Rattle.msi_table.specs.Laws.{KeysDiffer, after, applied, has_key, row_of}
use Rattle.msi_table.proofs.KeyedLemmas.{Rest, all_rest, in_kept, kept_in, keys_equal, keys_flip, keys_kept, no_key, place_there, rest_first, rest_later}
use Rattle.msi_table.proofs.LawLemmas.{Found, found, keys_tie, same_is}

-- ---- each difference in turn

set_there : {X : Type 0} (done : List X) (x y : X) (rest : List X) → slice_set (done ++ x ∷ rest) (length done) y ≡ done ++ y ∷ rest
set_there [] x y rest = refl
set_there (d ∷ ds) x y rest = ap (λ xs. d ∷ xs) (set_there ds x y rest)

-- the row that comes to stand where an old one does
abbrev pub new_row : List ColumnDef → List (List Value) → List Value → Option (List Value)
new_row columns new row = row_of columns new (key_of columns row)

old_step : (columns : List ColumnDef) (new : List (List Value)) (done rest : List (Option (List Value))) (n : ℕ) (row : List Value) (more : List Difference) → n ≡ length done
    → fold (after new) (done ++ Some row ∷ rest) (option_to_list (of_old columns new n row) ++ more) ≡ fold (after new) (done ++ new_row columns new row ∷ rest) more
old_step columns new done rest n row more here = by (place_of columns new (key_of columns row))
  where
    put : (r : Option (List Value)) → fold (after new) (slice_set (done ++ Some row ∷ rest) n r) more ≡ fold (after new) (done ++ r ∷ rest) more
    put r = ap (λ (m : ℕ). fold (after new) (slice_set (done ++ Some row ∷ rest) m r) more) here ∙ ap (λ (rows : List (Option (List Value))). fold (after new) rows more) (set_there done (Some row) r rest)

    by : (o : Option ℕ) → fold (after new) (done ++ Some row ∷ rest) (option_to_list (old_with new n row o) ++ more) ≡ fold (after new) (done ++ option_and_then (slice_get new) o ∷ rest) more
    by None = put None
    by (Some there) = by_test (stands_at new there row)
        (λ t. rw t (ap (λ (r : Option (List Value)). fold (after new) (done ++ r ∷ rest) more) (sym (same_is (slice_get new there) row t))))
        (λ t. rw t (put (slice_get new there)))

old_after : (columns : List ColumnDef) (new : List (List Value)) (done : List (Option (List Value))) (n : ℕ) (rest : List (List Value)) (more : List Difference) → n ≡ length done
    → fold (after new) (done ++ map Some rest) (each_from (of_old columns new) n rest ++ more) ≡ fold (after new) (done ++ map (new_row columns new) rest) more
old_after columns new done n [] more here = refl
old_after columns new done n (row ∷ rest) more here =
    let r : Option (List Value) = new_row columns new row in
    let next : n + 1 ≡ length (done ++ r ∷ []) = omega (arith, length-append done (r ∷ [])) in
    ap (fold (after new) (done ++ Some row ∷ map Some rest)) (append_assoc (option_to_list (of_old columns new n row)) (each_from (of_old columns new) (n + 1) rest) more)
    ∙ old_step columns new done (map Some rest) n row (each_from (of_old columns new) (n + 1) rest ++ more) here
    ∙ ap (λ (rows : List (Option (List Value))). fold (after new) rows (each_from (of_old columns new) (n + 1) rest ++ more)) (sym (append_assoc done (r ∷ []) (map Some rest)))
    ∙ old_after columns new (done ++ r ∷ []) (n + 1) rest more next
    ∙ ap (λ (rows : List (Option (List Value))). fold (after new) rows more) (append_assoc done (r ∷ []) (map (new_row columns new) rest))

-- no old row has the key of a row
abbrev pub is_new : List ColumnDef → List (List Value) → List Value → Bool
is_new columns old row = not (has_key columns old (key_of columns row))

new_after : (columns : List ColumnDef) (old new : List (List Value)) (rows : List (Option (List Value))) (n : ℕ) (rest : List (List Value)) → Rest n rest new
    → fold (after new) rows (each_from (of_new columns old) n rest) ≡ rows ++ map Some (filter (is_new columns old) rest)
new_after columns old new rows n [] r = sym (append-nil rows)
new_after columns old new rows n (row ∷ rest) r =
    by (place_of columns old (key_of columns row)) (is_new columns old row) (place_there columns (key_of columns row) 0 old)
    (λ rs. new_after columns old new rs (n + 1) rest (rest_later n row rest new r))
  where
    by : (o : Option ℕ) (b : Bool) → is_none o ≡ b
        → ((rs : List (Option (List Value))) → fold (after new) rs (each_from (of_new columns old) (n + 1) rest) ≡ rs ++ map Some (filter (is_new columns old) rest))
        → fold (after new) rows (option_to_list (new_with n o) ++ each_from (of_new columns old) (n + 1) rest) ≡ rows ++ map Some (cond b (row ∷ filter (is_new columns old) rest) (filter (is_new columns old) rest))
    by None true e later =
        ap (λ (x : Option (List Value)). fold (after new) (rows ++ x ∷ []) (each_from (of_new columns old) (n + 1) rest)) (rest_first n row rest new r)
        ∙ later (rows ++ Some row ∷ [])
        ∙ append_assoc rows (Some row ∷ []) (map Some (filter (is_new columns old) rest))
    by None false e later = cc
    by (Some p) true e later = cc
    by (Some p) false e later = later rows

-- ---- the rows that are left

abbrev left : List (Option (List Value)) → List (List Value)
left rows = filter_map (λ row. row) rows

left_joined : (xs ys : List (Option (List Value))) → left (xs ++ ys) ≡ left xs ++ left ys
left_joined [] ys = refl
left_joined (None ∷ xs) ys = left_joined xs ys
left_joined (Some x ∷ xs) ys = ap (λ (rows : List (List Value)). x ∷ rows) (left_joined xs ys)

all_left : (rows : List (List Value)) → left (map Some rows) ≡ rows
all_left [] = refl
all_left (row ∷ rows) = ap (λ (rs : List (List Value)). row ∷ rs) (all_left rows)

abbrev kept : List ColumnDef → List (List Value) → List (List Value) → List (List Value)
kept columns new old = left (map (new_row columns new) old)

applied_is : (columns : List ColumnDef) (old new : List (List Value)) → applied new (differences columns old new) old ≡ kept columns new old ++ filter (is_new columns old) new
applied_is columns old new =
    let added : List Difference = each_from (of_new columns old) 0 new in
    let rows : List (Option (List Value)) = map (new_row columns new) old in
    ap left (old_after columns new [] 0 old added refl ∙ new_after columns old new rows 0 new (all_rest new))
    ∙ left_joined rows (map Some (filter (is_new columns old) new))
    ∙ ap (λ (rs : List (List Value)). kept columns new old ++ rs) (all_left (filter (is_new columns old) new))

-- ---- they are the new rows

-- a row has another key
abbrev other_key : List ColumnDef → List Value → List Value → Bool
other_key columns row x = not (same_key (key_of columns row) (key_of columns x))

not_no : (b : Bool) → b ≡ false → not b ≡ true
not_no b e = ap not e

not_yes : (b : Bool) → b ≡ true → not b ≡ false
not_yes b e = ap not e

taken_out : (columns : List ColumnDef) (rows : List (List Value)) (row : List Value) → In row rows → KeysDiffer columns rows → IsPermutation (row ∷ filter (other_key columns row) rows) rows
taken_out columns [] row h d = absurd h
taken_out columns (x ∷ rows) row (inl e) d =
    let parts = or_parts (list_any (same_key (key_of columns x)) (map (key_of columns) rows)) (has_pair same_key (map (key_of columns) rows)) d in
    let apart : list_any (λ y. same_key (key_of columns x) (key_of columns y)) rows ≡ false = sym (list_any-map (same_key (key_of columns x)) (key_of columns) rows) ∙ parts.0 in
    let same : same_key (key_of columns row) (key_of columns x) ≡ true = keys_equal (key_of columns row) (key_of columns x) (ap (key_of columns) (sym e)) in
    let others : filter (other_key columns row) rows ≡ rows = filter_all (other_key columns row) rows
    (all_from (λ y. other_key columns row y ≡ true) rows (λ y i. ap (λ (r : List Value). other_key columns r y) (sym e)
    ∙ not_no (same_key (key_of columns x) (key_of columns y)) (all_at (λ z. same_key (key_of columns x) (key_of columns z) ≡ false) rows y (none_passes (λ z. same_key (key_of columns x) (key_of columns z)) rows apart) i))) in
    let gone : filter (other_key columns row) (x ∷ rows) ≡ rows = rw same others in
    let whole : row ∷ filter (other_key columns row) (x ∷ rows) ≡ x ∷ rows = ap (λ (r : List Value). r ∷ filter (other_key columns row) (x ∷ rows)) (sym e) ∙ ap (λ (rs : List (List Value)). x ∷ rs) gone in
    subst (IsPermutation (row ∷ filter (other_key columns row) (x ∷ rows))) whole (IsPermutation-refl (row ∷ filter (other_key columns row) (x ∷ rows)))
taken_out columns (x ∷ rows) row (inr h) d =
    let parts = or_parts (list_any (same_key (key_of columns x)) (map (key_of columns) rows)) (has_pair same_key (map (key_of columns) rows)) d in
    let apart : list_any (λ y. same_key (key_of columns x) (key_of columns y)) rows ≡ false = sym (list_any-map (same_key (key_of columns x)) (key_of columns) rows) ∙ parts.0 in
    let unlike : same_key (key_of columns row) (key_of columns x) ≡ false = keys_flip (key_of columns row) (key_of columns x)
    ∙ all_at (λ z. same_key (key_of columns x) (key_of columns z) ≡ false) rows row (none_passes (λ z. same_key (key_of columns x) (key_of columns z)) rows apart) h in
    let rest : List (List Value) = filter (other_key columns row) rows in
    let stays : filter (other_key columns row) (x ∷ rows) ≡ x ∷ rest = rw unlike refl in
    let swapped : IsPermutation (row ∷ x ∷ rest) (x ∷ row ∷ rest) = IsPermutation-sym (x ∷ row ∷ rest) (row ∷ x ∷ rest) (IsPermutation-middle (x ∷ []) row rest) in
    subst (λ (rs : List (List Value)). IsPermutation (row ∷ rs) (x ∷ rows)) (sym stays)
    (IsPermutation-trans (row ∷ x ∷ rest) (x ∷ row ∷ rest) (x ∷ rows) swapped (IsPermutation-cons x (row ∷ rest) rows (taken_out columns rows row h parts.1)))

filter_both : (p q : List Value → Bool) (rows : List (List Value)) → filter (λ x. not (p x || q x)) rows ≡ filter (λ x. not (p x)) (filter (λ x. not (q x)) rows)
filter_both p q [] = refl
filter_both p q (x ∷ rows) = by (p x) (q x) refl (filter_both p q rows)
  where
    by : (a b : Bool) → p x ≡ a → filter (λ y. not (p y || q y)) rows ≡ filter (λ y. not (p y)) (filter (λ y. not (q y)) rows)
        → cond (not (a || b)) (x ∷ filter (λ y. not (p y || q y)) rows) (filter (λ y. not (p y || q y)) rows)
        ≡ filter (λ y. not (p y)) (cond (not b) (x ∷ filter (λ y. not (q y)) rows) (filter (λ y. not (q y)) rows))
    by true true e later = later
    by true false e later = rw e later
    by false true e later = later
    by false false e later = rw e (ap (λ (rs : List (List Value)). x ∷ rs) later)

-- the new row of a key
found_row : (columns : List ColumnDef) (key : List Value) (new : List (List Value)) (row : List Value) → row_of columns new key ≡ Some row → In row new × (key_of columns row ≡ key)
found_row columns key new row e = by (place_of columns new key) refl e
  where
    by : (o : Option ℕ) → place_of columns new key ≡ o → option_and_then (slice_get new) o ≡ Some row → In row new × (key_of columns row ≡ key)
    by None is t = cc
    by (Some p) is t =
        let f : Found columns key 0 new p = found columns key 0 new p is in
        let at : f.i ≡ p = omega (arith, f.at) in
        let same : f.row ≡ row = let g : Some f.row ≡ Some row = sym f.there ∙ ap (slice_get new) at ∙ t in cc in
        (In-slice_get new p row t, ap (key_of columns) (sym same) ∙ keys_tie (key_of columns f.row) key f.same)

no_row : (columns : List ColumnDef) (key : List Value) (new : List (List Value)) → row_of columns new key ≡ None → has_key columns new key ≡ false
no_row columns key new e = by (place_of columns new key) refl e
  where
    by : (o : Option ℕ) → place_of columns new key ≡ o → option_and_then (slice_get new) o ≡ None → has_key columns new key ≡ false
    by None is t = no_key columns key new is
    by (Some p) is t =
        let f : Found columns key 0 new p = found columns key 0 new p is in
        let at : f.i ≡ p = omega (arith, f.at) in
        let clash : Some f.row ≡ None = sym f.there ∙ ap (slice_get new) at ∙ t in
        cc

-- no row that is left over has the key of one that is removed
all_other : (columns : List ColumnDef) (row : List Value) (old new : List (List Value)) → has_key columns new (key_of columns row) ≡ false
    → filter (other_key columns row) (filter (is_new columns old) new) ≡ filter (is_new columns old) new
all_other columns row old new e = filter_all (other_key columns row) (filter (is_new columns old) new) (all_from (λ x. other_key columns row x ≡ true) (filter (is_new columns old) new)
    (λ x i. not_no (same_key (key_of columns row) (key_of columns x)) (keys_flip (key_of columns row) (key_of columns x)
    ∙ all_at (λ y. same_key (key_of columns y) (key_of columns row) ≡ false) new x (none_passes (λ y. same_key (key_of columns y) (key_of columns row)) new e) (kept_in (is_new columns old) new x i).0)))

-- the new row of an old row's key is no row of an earlier key
still_new : (columns : List ColumnDef) (row r : List Value) (old : List (List Value)) → key_of columns r ≡ key_of columns row
    → list_any (same_key (key_of columns row)) (map (key_of columns) old) ≡ false → is_new columns old r ≡ true
still_new columns row r old same apart =
    let unlike : list_any (λ o. same_key (key_of columns row) (key_of columns o)) old ≡ false = sym (list_any-map (same_key (key_of columns row)) (key_of columns) old) ∙ apart in
    not_no (has_key columns old (key_of columns r)) (none_pass (λ o. same_key (key_of columns o) (key_of columns r)) old
    (all_from (λ o. same_key (key_of columns o) (key_of columns r) ≡ false) old (λ o i. ap (same_key (key_of columns o)) same ∙ keys_flip (key_of columns o) (key_of columns row)
    ∙ all_at (λ y. same_key (key_of columns row) (key_of columns y) ≡ false) old o (none_passes (λ y. same_key (key_of columns row) (key_of columns y)) old unlike) i)))

permuted : (columns : List ColumnDef) (old new : List (List Value)) → KeysDiffer columns old → KeysDiffer columns new → IsPermutation (kept columns new old ++ filter (is_new columns old) new) new
permuted columns [] new d e = subst (λ (rs : List (List Value)). IsPermutation rs new) (sym (filter_all (is_new columns []) new (all_from (λ x. true ≡ true) new (λ x i. refl)))) (IsPermutation-refl new)
permuted columns (row ∷ old) new d e =
    let parts = or_parts (list_any (same_key (key_of columns row)) (map (key_of columns) old)) (has_pair same_key (map (key_of columns) old)) d in
    let rest : List (List Value) = filter (is_new columns old) new in
    let split : filter (is_new columns (row ∷ old)) new ≡ filter (other_key columns row) rest =
    filter_both (λ x. same_key (key_of columns row) (key_of columns x)) (λ x. has_key columns old (key_of columns x)) new in
    subst (λ (rs : List (List Value)). IsPermutation (kept columns new (row ∷ old) ++ rs) new) (sym split)
    (by (new_row columns new row) refl parts.0 (permuted columns old new parts.1 e))
  where
    by : (o : Option (List Value)) → new_row columns new row ≡ o → list_any (same_key (key_of columns row)) (map (key_of columns) old) ≡ false
        → IsPermutation (kept columns new old ++ filter (is_new columns old) new) new
        → IsPermutation (left (o ∷ map (new_row columns new) old) ++ filter (other_key columns row) (filter (is_new columns old) new)) new
    by None is apart all = subst (λ (rs : List (List Value)). IsPermutation (kept columns new old ++ rs) new) (sym (all_other columns row old new (no_row columns (key_of columns row) new is))) all
    by (Some r) is apart all =
        let f = found_row columns (key_of columns row) new r is in
        let rest : List (List Value) = filter (is_new columns old) new in
        let others : List (List Value) = filter (other_key columns r) rest in
        let same : others ≡ filter (other_key columns row) rest = ap (λ (k : List Value). filter (λ x. not (same_key k (key_of columns x))) rest) f.1 in
        let out : IsPermutation (r ∷ others) rest = taken_out columns rest r (in_kept (is_new columns old) new r f.0 (still_new columns row r old f.1 apart)) (keys_kept columns (is_new columns old) new e) in
        let ks : List (List Value) = kept columns new old in
        let first : IsPermutation (r ∷ (ks ++ others)) (ks ++ r ∷ others) = IsPermutation-sym (ks ++ r ∷ others) (r ∷ (ks ++ others)) (IsPermutation-middle ks r others) in
        let later : IsPermutation (ks ++ r ∷ others) new = IsPermutation-trans (ks ++ r ∷ others) (ks ++ rest) new (IsPermutation-append_right ks (r ∷ others) rest out) all in
        subst (λ (rs : List (List Value)). IsPermutation (r ∷ (ks ++ rs)) new) same (IsPermutation-trans (r ∷ (ks ++ others)) (ks ++ r ∷ others) new first later)

pub made_new : (columns : List ColumnDef) (old new : List (List Value)) → KeysDiffer columns old → KeysDiffer columns new → IsPermutation (applied new (differences columns old new) old) new
made_new columns old new d e = subst (λ (rows : List (List Value)). IsPermutation rows new) (sym (applied_is columns old new)) (permuted columns old new d e)
