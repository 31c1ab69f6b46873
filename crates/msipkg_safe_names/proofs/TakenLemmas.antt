-- Names that are given out, which a set keeps with small letters.
use Rattle.std.proofs.Common.{◌≡◌, ℕ, Bool, true, false, cond, ◌||◌, List, [], ◌∷◌, refl, ap, sym, ◌∙◌, map, String, string_bytes}
use Rattle.std.specs.BTreeSet.{BTreeSet, UpdatesBy, contains_text}
use Rattle.std.specs.BTreeMap.{is_at}
use Rattle.std.specs.Char.{to_ascii_lowercase}
use Rattle.std.specs.Cmp.Lexicographic.{slice_cmp}
use Rattle.std.specs.List.{list_any}
use Rattle.std.specs.Ordering.{nat_cmp}
use Rattle.std.specs.Str.{bytes_eq, str_eq_ignore_ascii_case, str_to_ascii_lowercase}
use Rattle.std.specs.String.{string_cmp}
use Rattle.std.proofs.lemmas.Map.Text.{btree_set_updates_text, is_eq-slice_cmp}
use Rattle.std.proofs.lemmas.Slice.Eq.{bytes_eq-Decides}
use Rattle.msipkg_safe_names.specs.SafeNames.{Takes, is_taken}
use Rattle.msipkg_safe_names.proofs.SafeNamesLemmas.{by_test}

any_is : {Y : Type 0} (cs : List ℕ) (ks : List (String Y)) → list_any (is_at (λ k. slice_cmp nat_cmp cs (string_bytes k))) ks ≡ list_any (bytes_eq cs) (map string_bytes ks)
any_is cs [] = refl
any_is cs (k ∷ ks) =
    ap (λ b. b || list_any (is_at (λ k. slice_cmp nat_cmp cs (string_bytes k))) ks) (is_eq-slice_cmp cs (string_bytes k))
    ∙ ap (λ b. bytes_eq cs (string_bytes k) || b) (any_is cs ks)

pub taken_is : {Y : Type 0} (s : BTreeSet (String Y)) (names : List (List ℕ)) (name small : List ℕ) → names ≡ map string_bytes s.keys → small ≡ map to_ascii_lowercase name → contains_text s small ≡ is_taken names name
taken_is s names name small n e =
    ap (contains_text s) e ∙ (any_is (str_to_ascii_lowercase name) s.keys ∙ ap (list_any (bytes_eq (str_to_ascii_lowercase name))) (sym n))

or_false : (x : Bool) → x ≡ (x || false)
or_false true = refl
or_false false = refl

cond_or : (b x : Bool) → cond b true x ≡ (x || b)
cond_or true true = refl
cond_or true false = refl
cond_or false true = refl
cond_or false false = refl

-- what is taken already
pub takes_again : (taken : List (List ℕ)) (name : List ℕ) → is_taken taken name ≡ true → Takes taken taken name
takes_again taken name t = λ other. by_test (str_eq_ignore_ascii_case name other)
    (λ same.
    let small = (bytes_eq-Decides (str_to_ascii_lowercase name) (str_to_ascii_lowercase other)).0 same in
    let there : is_taken taken other ≡ true = ap (λ bytes. list_any (bytes_eq bytes) taken) (sym small) ∙ t in
    rw there refl)
    (λ differ. or_false (is_taken taken other) ∙ ap (λ b. is_taken taken other || b) (sym differ))

-- what is taken from now on
pub takes_more : {Y : Type 0} (s n : BTreeSet (String Y)) (old : List (List ℕ)) (name small : List ℕ) → old ≡ map string_bytes s.keys → small ≡ map to_ascii_lowercase name
    → UpdatesBy string_cmp (λ k. slice_cmp nat_cmp small (string_bytes k)) s n true → Takes old (map string_bytes n.keys) name
takes_more s n old name small o e updates = λ other.
    sym (taken_is n (map string_bytes n.keys) other (str_to_ascii_lowercase other) refl refl)
    ∙ (btree_set_updates_text small s n true updates (str_to_ascii_lowercase other)
    ∙ (ap (λ bytes. cond (bytes_eq bytes (str_to_ascii_lowercase other)) true (contains_text s (str_to_ascii_lowercase other))) e
    ∙ (cond_or (str_eq_ignore_ascii_case name other) (contains_text s (str_to_ascii_lowercase other))
    ∙ ap (λ b. b || str_eq_ignore_ascii_case name other) (taken_is s old other (str_to_ascii_lowercase other) o refl))))
