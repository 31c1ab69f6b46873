-- Sets of keys: two keys of a list are the same where a key is in the set of those before it.
use Rattle.std.proofs.Common.{◌≡◌, ℕ, ◌+◌, ◌<◌, Bool, true, false, cond, ◌||◌, List, [], ◌∷◌, ◌++◌, length, map, take, drop, reverse, get_or, Option, Some, refl, sym, ap, ◌∙◌, subst, inr}
use Rattle.std.specs.List.{list_any}
use Rattle.std.specs.BTreeSet.{BTreeSet, contains, Updates}
use Rattle.std.specs.Cmp.Lexicographic.{slice_cmp}
use Rattle.std.proofs.lemmas.List.{drop_more, get_or-map, reverse-append, take_more}
use Rattle.std.proofs.lemmas.List.Folds.{list_any-append}
use Rattle.std.proofs.lemmas.List.Sorted.{IsPermutation-reverse, list_any-IsPermutation}
use Rattle.std.proofs.lemmas.Bool.{or_right}
use Rattle.msi_base.specs.declared.errors.ErrorKind.{ErrorKind}
use Rattle.msi_base.specs.declared.errors.ErrorKind.TheVariants.{AlreadyExists, InvalidInput}
use Rattle.msi_base.specs.Lists.{has_pair}
use Rattle.msi_base.proofs.BoolLemmas.{or_first, first_or_second}
use Rattle.msi_base.specs.Refusals.{IsRefusal, Refusals, first_refusal, unless, unless_refused}
use Rattle.msi_table_values.specs.declared.value.Value.{Value}
use Rattle.msi_table_values.specs.Columns.{ColumnDef}
use Rattle.msi_table_values.specs.Values.{value_cmp}
use Rattle.msi_database_changes.specs.KeySets.{key_refusals, HasKeys}
use Rattle.msi_table_cells.specs.KeyOrder.{key_of, same_key}
use Rattle.msi_database_changes.proofs.row_keys.KeyPairLemmas.{same_key_turned}

-- one more element, behind the others
module _ {X : Type 0} (same : X → X → Bool) (turn : (x y : X) → same x y ≡ same y x) where
  four : (a b c d : Bool) → ((a || (b || false)) || (c || d)) ≡ ((a || c) || (b || d))
  four true b c d = refl
  four false true true d = refl
  four false true false d = refl
  four false false c d = refl

  pair_pushed : (xs : List X) (y : X) → has_pair same (xs ++ y ∷ []) ≡ (has_pair same xs || list_any (same y) xs)
  pair_pushed [] y = refl
  pair_pushed (x ∷ xs) y =
      rw (list_any-append (same x) xs (y ∷ []), pair_pushed xs y, turn x y) (four (list_any (same x) xs) (same y x) (has_pair same xs) (list_any (same y) xs))

abbrev keys_pushed : (keys : List (List Value)) (key : List Value) → has_pair same_key (keys ++ key ∷ []) ≡ (has_pair same_key keys || list_any (same_key key) keys)
keys_pushed keys key = pair_pushed same_key same_key_turned keys key

-- a key that was there
pub key_again : (keys : List (List Value)) (key : List Value) → list_any (same_key key) keys ≡ true → has_pair same_key (keys ++ key ∷ []) ≡ true
key_again keys key h = keys_pushed keys key ∙ or_right (has_pair same_key keys) (list_any (same_key key) keys) h

-- and one that wasn't
pub key_once : (keys : List (List Value)) (key : List Value) → list_any (same_key key) keys ≡ false → has_pair same_key (keys ++ key ∷ []) ≡ has_pair same_key keys
key_once keys key h = keys_pushed keys key ∙ or_first (has_pair same_key keys) (list_any (same_key key) keys) h

-- the set has one more key
pub keys_more : (set new : BTreeSet (List Value)) (keys : List (List Value)) (key : List Value) → HasKeys set keys → Updates (slice_cmp value_cmp) set new key true → HasKeys new (keys ++ key ∷ [])
keys_more set new keys key has updated q =
    updated.0 q
    ∙ ap (λ b. cond b true (contains (slice_cmp value_cmp) set q)) (same_key_turned key q)
    ∙ ap (cond (same_key q key) true) (has q)
    ∙ first_or_second (list_any (same_key q) keys) (same_key q key)
    ∙ sym (list_any-append (same_key q) keys (key ∷ []))

-- the refusals of the keys from one on
abbrev pub refusal_from : List (List Value) → List (List Value) → ℕ → Option ErrorKind
refusal_from held keys i = first_refusal (key_refusals held (reverse (take i keys)) (drop i keys))

any_reversed : (key : List Value) (keys : List (List Value)) → list_any (same_key key) (reverse keys) ≡ list_any (same_key key) keys
any_reversed key keys = sym (list_any-IsPermutation (same_key key) keys (reverse keys) (IsPermutation-reverse keys))

module _ (held keys : List (List Value)) (i : ℕ) (key : List Value) (inside : i < length keys) (at : get_or keys i key ≡ key) where
  rest_is : drop i keys ≡ key ∷ drop (i + 1) keys
  rest_is = drop_more keys i key inside ∙ ap (λ (k : List Value). k ∷ drop (i + 1) keys) at

  front_is : reverse (take (i + 1) keys) ≡ key ∷ reverse (take i keys)
  front_is = ap reverse (take_more keys i key inside ∙ ap (λ (k : List Value). take i keys ++ k ∷ []) at) ∙ reverse-append (take i keys) (key ∷ [])

  pub held_refused : list_any (same_key key) held ≡ true → refusal_from held keys i ≡ Some AlreadyExists
  held_refused h = rw (rest_is, h) refl

  pub again_refused : list_any (same_key key) held ≡ false → list_any (same_key key) (take i keys) ≡ true → refusal_from held keys i ≡ Some InvalidInput
  again_refused h g =
      let before : list_any (same_key key) (reverse (take i keys)) ≡ true = any_reversed key (take i keys) ∙ g in
      rw (rest_is, h, before) refl

  pub key_passes : list_any (same_key key) held ≡ false → list_any (same_key key) (take i keys) ≡ false → refusal_from held keys i ≡ refusal_from held keys (i + 1)
  key_passes h g =
      let before : list_any (same_key key) (reverse (take i keys)) ≡ false = any_reversed key (take i keys) ∙ g in
      rw (rest_is, h, before, front_is) refl

-- the key of a row at its place
pub key_at : (columns : List ColumnDef) (rows : List (List Value)) (i : ℕ) (row key : List Value) → i < length rows → row ≡ get_or rows i row → key ≡ key_of columns row
    → get_or (map (key_of columns) rows) i key ≡ key
key_at columns rows i row key h at is = get_or-map (key_of columns) rows i row key h ∙ ap (key_of columns) (sym at) ∙ sym is

pub keys_to : (set : BTreeSet (List Value)) (keys : List (List Value)) (i : ℕ) (key : List Value) → i < length keys → get_or keys i key ≡ key → HasKeys set (take i keys ++ key ∷ []) → HasKeys set (take (i + 1) keys)
keys_to set keys i key h at has = subst (HasKeys set) (sym (take_more keys i key h ∙ ap (λ (k : List Value). take i keys ++ k ∷ []) at)) has

-- a refusal as an answer
pub refused : (rs : Refusals) (kind : ErrorKind) → first_refusal rs ≡ Some kind → IsRefusal {A = Unit {0}} (unless_refused rs tt) kind
refused rs kind e = inr (ap (λ (o : Option ErrorKind). unless {A = Unit {0}} o tt) e)
