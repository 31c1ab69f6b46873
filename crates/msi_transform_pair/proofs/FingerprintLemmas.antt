-- Keys whose fingerprints differ are apart.
use Rattle.std.proofs.Common.{◌≡◌, ℕ, ◌+◌, ◌<◌, ◌≤◌, ◌⊎◌, Bool, true, false, not, List, [], ◌∷◌, length, map, drop, get_or, refl, sym, ap, ◌∙◌, inl, inr, arith}
use Rattle.std.specs.Prelude.{⊤, nat_eq}
use Rattle.std.specs.Cmp.{ranked}
use Rattle.std.specs.List.{AllByRecursion, list_any}
use Rattle.std.specs.List.Sorted.{IsPermutation, IsStrictlyIncreasing, IsStrictlySortedBy}
use Rattle.std.specs.Ordering.{nat_cmp}
use Rattle.std.specs.declared.cmp.Ordering.TheVariants.{Less}
use Rattle.std.proofs.lemmas.Bool.{or_from}
use Rattle.std.proofs.lemmas.Bool.Decides.{nat_tests}
use Rattle.std.proofs.lemmas.Cmp.{nat_eq_equiv}
use Rattle.std.proofs.lemmas.List.{drop_all}
use Rattle.std.proofs.lemmas.List.Sorted.{IsPermutation-sym}
use Rattle.std.proofs.lemmas.Map.Keys.{sorted_from_strictly_increasing}
use Rattle.msi_base.specs.Lists.{has_pair}
use Rattle.msi_base.proofs.ListLemmas.{all_from, drop_next, has_pair-map, no_pair_permuted, no_pair_weaker, none_pass}
use Rattle.msi_pool.specs.Pool.{Place}
use Rattle.msi_table_cells.specs.CellValues.{row_values, value_of_cell}
use Rattle.msi_table_cells.specs.KeyOrder.{key_of, same_key}
use Rattle.msi_table_cells.specs.StoredOrder.{parts_where}
use Rattle.msi_table_cells.specs.declared.cell.ValueRef.{ValueRef}
use Rattle.msi_table_values.specs.declared.value.Value.{Value}
use Rattle.msi_table_values.specs.Columns.{ColumnDef}
use Rattle.msi_transform_schema.specs.SchemaApplying.{have_own_keys}
use Rattle.msi_transform_pair.specs.Fingerprints.{fingerprint}
use Rattle.msi_transform_pair.proofs.ToldRowsLemmas.{keys_tie}

-- THE REST OF A KEY

abbrev is_key : ColumnDef → Bool
is_key c = c.is_primary_key

abbrev pub key_rest : List Place → List ColumnDef → List ValueRef → ℕ → List Value
key_rest places columns row i = parts_where is_key (drop i columns) (row_values places (drop i row))

pub key_skips : (places : List Place) (columns : List ColumnDef) (row : List ValueRef) (i : ℕ) (c : ColumnDef) (x : ValueRef) → i < length columns → i < length row
    → c ≡ get_or columns i c → x ≡ get_or row i x → c.is_primary_key ≡ false → key_rest places columns row i ≡ key_rest places columns row (i + 1)
key_skips places columns row i c x h l at is t = rw (drop_next columns i c h at, drop_next row i x l is, t) refl

pub key_takes : (places : List Place) (columns : List ColumnDef) (row : List ValueRef) (i : ℕ) (c : ColumnDef) (x : ValueRef) → i < length columns → i < length row
    → c ≡ get_or columns i c → x ≡ get_or row i x → c.is_primary_key ≡ true
    → key_rest places columns row i ≡ value_of_cell places x ∷ key_rest places columns row (i + 1)
key_takes places columns row i c x h l at is t = rw (drop_next columns i c h at, drop_next row i x l is, t) refl

nothing_left : (columns : List ColumnDef) → parts_where {X = Value} is_key columns [] ≡ []
nothing_left [] = refl
nothing_left (c ∷ cs) = refl

pub key_ends : (places : List Place) (columns : List ColumnDef) (row : List ValueRef) (i : ℕ) → (length columns ≤ i) ⊎ (length row ≤ i) → key_rest places columns row i ≡ []
key_ends places columns row i (inl past) = ap (λ (cs : List ColumnDef). parts_where is_key cs (row_values places (drop i row))) (drop_all i columns past)
key_ends places columns row i (inr past) =
    ap (λ (cells : List ValueRef). parts_where is_key (drop i columns) (row_values places cells)) (drop_all i row past) ∙ nothing_left (drop i columns)

-- NUMBERS THAT RISE DIFFER

differs : (x y : ℕ) → nat_cmp x y ≡ Less → nat_eq x y ≡ false
differs x y e = let below : x < y = ranked x y Less (sym e) in grind (arith, nat_tests)

differs_each : (x : ℕ) (xs : List ℕ) → AllByRecursion (λ y. nat_cmp x y ≡ Less) xs → AllByRecursion (λ y. nat_eq x y ≡ false) xs
differs_each x [] h = tt
differs_each x (y ∷ ys) h = (differs x y h.0, differs_each x ys h.1)

sorted_differ : (xs : List ℕ) → IsStrictlySortedBy nat_cmp xs → has_pair nat_eq xs ≡ false
unfolding IsStrictlySortedBy
sorted_differ [] h = refl
sorted_differ (x ∷ xs) h = or_from (list_any (nat_eq x) xs) (has_pair nat_eq xs) (none_pass (nat_eq x) xs (differs_each x xs h.0)) (sorted_differ xs h.1)

pub all_differ_once_sorted : (xs ys : List ℕ) → IsPermutation xs ys → IsStrictlyIncreasing ys → has_pair nat_eq xs ≡ false
all_differ_once_sorted xs ys moved rising =
    no_pair_permuted nat_eq nat_eq_equiv.symm ys xs (IsPermutation-sym xs ys moved) (sorted_differ ys (sorted_from_strictly_increasing ys rising))

-- KEYS WHOSE FINGERPRINTS DIFFER

nothing_asked : (rows : List (List ValueRef)) → AllByRecursion (λ row. ⊤) rows
nothing_asked rows = all_from (λ row. ⊤) rows (λ row h. tt)

pub keys_differ : (places : List Place) (columns : List ColumnDef) (rows : List (List ValueRef))
    → has_pair nat_eq (map (λ row. fingerprint (key_of columns (row_values places row))) rows) ≡ false → have_own_keys places columns rows ≡ true
keys_differ places columns rows d =
    let key = λ (row : List ValueRef). key_of columns (row_values places row) in
    let print = λ (row : List ValueRef). fingerprint (key row) in
    let apart : has_pair (λ a b. same_key (key a) (key b)) rows ≡ false =
    no_pair_weaker (λ row. ⊤) (λ a b. nat_eq (print a) (print b)) (λ a b. same_key (key a) (key b))
    (λ a b p q same. ap (λ (k : List Value). nat_eq (fingerprint k) (print b)) (keys_tie (key a) (key b) same) ∙ nat_eq_equiv.refl (print b))
    rows (nothing_asked rows) (sym (has_pair-map nat_eq print rows) ∙ d) in
    ap not (has_pair-map same_key key rows ∙ apart)
