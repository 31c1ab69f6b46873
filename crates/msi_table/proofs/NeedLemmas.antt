-- Each difference is needed, and no two are of one key.
use Rattle.std.proofs.Common.{◌≡◌, ℕ, ◌+◌, Bool, true, false, not, cond, List, [], ◌∷◌, ◌++◌, map, filter, Option, Some, None, refl, sym, ap, ◌∙◌, subst, arith}
use Rattle.std.proofs.lemmas.List.{map-append}
use Rattle.std.specs.Prelude.{IsSomeAnd, is_none, option_map, slice_get, unwrap_or}
use Rattle.std.specs.List.{AllByRecursion, list_any}
use Rattle.std.specs.Option.{option_to_list}
use Rattle.std.proofs.lemmas.Slice.Eq.{slice_eq-Decides}
use Rattle.msi_base.specs.Lists.{has_pair}
use Rattle.msi_base.proofs.BoolLemmas.{by_test}
use Rattle.msi_base.proofs.ListLemmas.{In, all_at, all_from, all_joined, all_kept, list_any-map, no_pair_joined, none_pass, none_passes}
use Rattle.msi_table_values.specs.declared.value.Value.{Value}
use Rattle.msi_table_values.specs.Columns.{ColumnDef}
use Rattle.msi_table_values.specs.OrderLaws.{value_eq-Decides}
use Rattle.msi_table_cells.specs.KeyOrder.{key_of, same_key}
use Rattle.msi_table.specs.declared.comparing.Difference.{Difference}
use Rattle.msi_table.specs.Differences.{differences, each_from, is_same_as, new_with, of_new, of_old, old_with, place_of, same_row, stands_at}
use Rattle.msi_table.specs.Laws.{Differ, IsNeeded, KeysDiffer, has_key, key_at, named_key}
use Rattle.msi_table.proofs.AppliedLemmas.{is_new}
use Rattle.msi_table.proofs.KeyedLemmas.{Rest, all_rest, keys_kept, kept_in, no_key, place_there, rest_first, rest_later, unnot}
use Rattle.msi_table.proofs.LawLemmas.{Found, found, keys_tie}

-- ---- each is needed

at_place : (P : List Value → Type 0) (rows : List (List Value)) (place : ℕ) (row : List Value) → slice_get rows place ≡ Some row → P row → IsSomeAnd (slice_get rows place) P
at_place P rows place row e p = subst (λ (o : Option (List Value)). IsSomeAnd o P) (sym e) p

-- a row that isn't the one at a place
not_there : (row other : List Value) → same_row other row ≡ false → row ≡ other → ⊥
not_there row other e same =
    let clash : true ≡ false = sym ((slice_eq-Decides value_eq-Decides other row (same_row other row) refl).1 (sym same)) ∙ e in
    cc

old_needed : (columns : List ColumnDef) (old new : List (List Value)) (n : ℕ) (row : List Value) → slice_get old n ≡ Some row
    → AllByRecursion (IsNeeded columns old new) (option_to_list (of_old columns new n row))
old_needed columns old new n row at = by (place_of columns new (key_of columns row)) refl
  where
    by : (o : Option ℕ) → place_of columns new (key_of columns row) ≡ o → AllByRecursion (IsNeeded columns old new) (option_to_list (old_with new n row o))
    by None e = (at_place (λ r. has_key columns new (key_of columns r) ≡ false) old n row at (no_key columns (key_of columns row) new e), tt)
    by (Some there) e =
        let f : Found columns (key_of columns row) 0 new there = found columns (key_of columns row) 0 new there e in
        let here : f.i ≡ there = omega (arith, f.at) in
        let got : slice_get new there ≡ Some f.row = ap (slice_get new) (sym here) ∙ f.there in
        by_test (stands_at new there row)
        (λ t. rw t tt)
        (λ t. rw t (
          at_place (λ r. IsSomeAnd (slice_get new there) (Differ columns r)) old n row at
              (at_place (Differ columns row) new there f.row got
              (sym (keys_tie (key_of columns f.row) (key_of columns row) f.same), not_there row f.row (ap (λ o. is_same_as o row) (sym got) ∙ t))),
          tt,
        ))

new_needed : (columns : List ColumnDef) (old new : List (List Value)) (n : ℕ) (row : List Value) → slice_get new n ≡ Some row
    → AllByRecursion (IsNeeded columns old new) (option_to_list (of_new columns old n row))
new_needed columns old new n row at = by (place_of columns old (key_of columns row)) refl
  where
    by : (o : Option ℕ) → place_of columns old (key_of columns row) ≡ o → AllByRecursion (IsNeeded columns old new) (option_to_list (new_with n o))
    by None e = (at_place (λ r. has_key columns old (key_of columns r) ≡ false) new n row at (no_key columns (key_of columns row) old e), tt)
    by (Some p) e = tt

each_made : (P : Difference → Type 0) (makes : ℕ → List Value → Option Difference) (whole : List (List Value)) (n : ℕ) (rest : List (List Value))
    → ((k : ℕ) (row : List Value) → slice_get whole k ≡ Some row → AllByRecursion P (option_to_list (makes k row)))
    → Rest n rest whole → AllByRecursion P (each_from makes n rest)
each_made P makes whole n [] each r = tt
each_made P makes whole n (row ∷ rest) each r =
    all_joined P (option_to_list (makes n row)) (each_from makes (n + 1) rest) (each n row (rest_first n row rest whole r)) (each_made P makes whole (n + 1) rest each (rest_later n row rest whole r))

pub each_needed : (columns : List ColumnDef) (old new : List (List Value)) → AllByRecursion (IsNeeded columns old new) (differences columns old new)
each_needed columns old new =
    all_joined (IsNeeded columns old new) (each_from (of_old columns new) 0 old) (each_from (of_new columns old) 0 new)
    (each_made (IsNeeded columns old new) (of_old columns new) old 0 old (old_needed columns old new) (all_rest old))
    (each_made (IsNeeded columns old new) (of_new columns old) new 0 new (new_needed columns old new) (all_rest new))

-- ---- the keys that differences name

named_at : (columns : List ColumnDef) (rows : List (List Value)) (n : ℕ) (row : List Value) → slice_get rows n ≡ Some row → key_at columns rows n ≡ key_of columns row
named_at columns rows n row e = ap (λ o. unwrap_or (option_map (key_of columns) o) []) e

-- an old row that makes a difference
is_other : List (List Value) → List Value → Option ℕ → Bool
is_other new row None = true
is_other new row (Some there) = not (stands_at new there row)

abbrev makes_other : List ColumnDef → List (List Value) → List Value → Bool
makes_other columns new row = is_other new row (place_of columns new (key_of columns row))

old_keys : (columns : List ColumnDef) (old new : List (List Value)) (n : ℕ) (rest : List (List Value)) → Rest n rest old
    → map (named_key columns old new) (each_from (of_old columns new) n rest) ≡ map (key_of columns) (filter (makes_other columns new) rest)
unfolding is_other
old_keys columns old new n [] r = refl
old_keys columns old new n (row ∷ rest) r =
    map-append (named_key columns old new) (option_to_list (of_old columns new n row)) (each_from (of_old columns new) (n + 1) rest)
    ∙ ap (λ (ks : List (List Value)). map (named_key columns old new) (option_to_list (of_old columns new n row)) ++ ks) (old_keys columns old new (n + 1) rest (rest_later n row rest old r))
    ∙ by (place_of columns new (key_of columns row))
  where
    key_is : key_at columns old n ≡ key_of columns row
    key_is = named_at columns old n row (rest_first n row rest old r)

    by : (o : Option ℕ) → map (named_key columns old new) (option_to_list (old_with new n row o)) ++ map (key_of columns) (filter (makes_other columns new) rest)
        ≡ map (key_of columns) (cond (is_other new row o) (row ∷ filter (makes_other columns new) rest) (filter (makes_other columns new) rest))
    by None = ap (λ (k : List Value). k ∷ map (key_of columns) (filter (makes_other columns new) rest)) key_is
    by (Some there) = by_test (stands_at new there row)
        (λ t. rw t refl)
        (λ t. rw t (ap (λ (k : List Value). k ∷ map (key_of columns) (filter (makes_other columns new) rest)) key_is))

new_keys : (columns : List ColumnDef) (old new : List (List Value)) (n : ℕ) (rest : List (List Value)) → Rest n rest new
    → map (named_key columns old new) (each_from (of_new columns old) n rest) ≡ map (key_of columns) (filter (is_new columns old) rest)
new_keys columns old new n [] r = refl
new_keys columns old new n (row ∷ rest) r =
    map-append (named_key columns old new) (option_to_list (of_new columns old n row)) (each_from (of_new columns old) (n + 1) rest)
    ∙ ap (λ (ks : List (List Value)). map (named_key columns old new) (option_to_list (of_new columns old n row)) ++ ks) (new_keys columns old new (n + 1) rest (rest_later n row rest new r))
    ∙ by (place_of columns old (key_of columns row)) (is_new columns old row) (place_there columns (key_of columns row) 0 old)
  where
    by : (o : Option ℕ) (b : Bool) → is_none o ≡ b → map (named_key columns old new) (option_to_list (new_with n o)) ++ map (key_of columns) (filter (is_new columns old) rest)
        ≡ map (key_of columns) (cond b (row ∷ filter (is_new columns old) rest) (filter (is_new columns old) rest))
    by None true e = ap (λ (k : List Value). k ∷ map (key_of columns) (filter (is_new columns old) rest)) (named_at columns new n row (rest_first n row rest new r))
    by None false e = cc
    by (Some p) true e = cc
    by (Some p) false e = refl

all_images : {X Y : Type 0} (P : Y → Type 0) (f : X → Y) (xs : List X) → AllByRecursion (λ x. P (f x)) xs → AllByRecursion P (map f xs)
all_images P f [] h = tt
all_images P f (x ∷ xs) h = (h.0, all_images P f xs h.1)

-- no added row has the key of an old one
none_added : (columns : List ColumnDef) (old new : List (List Value)) (o : List Value) → In o old → list_any (same_key (key_of columns o)) (map (key_of columns) (filter (is_new columns old) new)) ≡ false
none_added columns old new o i =
    list_any-map (same_key (key_of columns o)) (key_of columns) (filter (is_new columns old) new)
    ∙ none_pass (λ x. same_key (key_of columns o) (key_of columns x)) (filter (is_new columns old) new)
    (all_from (λ x. same_key (key_of columns o) (key_of columns x) ≡ false) (filter (is_new columns old) new)
    (λ x j. all_at (λ y. same_key (key_of columns y) (key_of columns x) ≡ false) old o
    (none_passes (λ y. same_key (key_of columns y) (key_of columns x)) old (unnot (has_key columns old (key_of columns x)) (sym (kept_in (is_new columns old) new x j).1))) i))

pub named_once : (columns : List ColumnDef) (old new : List (List Value)) → KeysDiffer columns old → KeysDiffer columns new
    → has_pair same_key (map (named_key columns old new) (differences columns old new)) ≡ false
named_once columns old new d e =
    let changed : List (List Value) = map (key_of columns) (filter (makes_other columns new) old) in
    let added : List (List Value) = map (key_of columns) (filter (is_new columns old) new) in
    let keys : map (named_key columns old new) (differences columns old new) ≡ changed ++ added =
    map-append (named_key columns old new) (each_from (of_old columns new) 0 old) (each_from (of_new columns old) 0 new)
    ∙ ap (λ (ks : List (List Value)). ks ++ map (named_key columns old new) (each_from (of_new columns old) 0 new)) (old_keys columns old new 0 old (all_rest old))
    ∙ ap (λ (ks : List (List Value)). changed ++ ks) (new_keys columns old new 0 new (all_rest new)) in
    ap (has_pair same_key) keys
    ∙ no_pair_joined same_key changed added (keys_kept columns (makes_other columns new) old d) (keys_kept columns (is_new columns old) new e)
    (all_images (λ k. list_any (same_key k) added ≡ false) (key_of columns) (filter (makes_other columns new) old)
    (all_kept (λ o. list_any (same_key (key_of columns o)) added ≡ false) (makes_other columns new) old
    (all_from (λ o. list_any (same_key (key_of columns o)) added ≡ false) old (none_added columns old new))))
