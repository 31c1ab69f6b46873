-- Sets of names as lists of names.
use Rattle.std.proofs.Common.{◌≡◌, ℕ, Bool, true, false, List, [], ◌∷◌, ◌||◌, nat_eq, bytes_eq, ◌∙◌, ap, sym, Bor}
use Rattle.std.specs.Prelude.{IsTrue, ◌↔◌, Contains}
use Rattle.std.specs.List.{list_any}
use Rattle.std.specs.Cmp.Lexicographic.{pointwise}
use Rattle.std.specs.HashSet.{HashSet, Updates}
use Rattle.std.proofs.lemmas.Cmp.{nat_list_eq_equiv}
use Rattle.std.proofs.lemmas.Map.Views.{list_any-from_Contains, Contains-from_any}
use Rattle.std.proofs.lemmas.Slice.Eq.{bytes_eq-Decides}
use Rattle.msi_base.proofs.BoolLemmas.{first_or_second}
use Rattle.msi_query_expressions.specs.Names.{has_name}

-- a name that is inserted is there, and the others are as before
pub has_name-inserted : {S : Type 0} (s n : HashSet (Bor (List ℕ)) S) (k : Bor (List ℕ)) (names : List (List ℕ)) → names ≡ k.now ∷ []
    → Updates (λ x y. pointwise nat_eq x.now y.now) s n k true
    → (name : List ℕ) → has_name n name ≡ (has_name s name || list_any (bytes_eq name) names)
has_name-inserted s n k names e updates name =
    updates.0 (record { ref_ptr = (0, 0); now = name })
    ∙ first_or_second (has_name s name) (bytes_eq k.now name)
    ∙ ap (λ b. has_name s name || (b || false)) (nat_list_eq_equiv.symm k.now name)
    ∙ ap (λ ns. has_name s name || list_any (bytes_eq name) ns) (sym e)

-- no name is in an empty set
pub has_name-collected : {S : Type 0} (s n : HashSet (Bor (List ℕ)) S) (name : List ℕ) (names : List (List ℕ)) → s.keys ≡ []
    → has_name n name ≡ (has_name s name || list_any (bytes_eq name) names) → has_name n name ≡ list_any (bytes_eq name) names
has_name-collected s n name names empty e = e ∙ ap (λ ks. list_any (λ k. bytes_eq name k.now) ks || list_any (bytes_eq name) names) empty

-- what a set has where it has just the names of a list
pub IsTrue-list_any : (has : Bool) (name : List ℕ) (names : List (List ℕ)) → has ≡ list_any (bytes_eq name) names → IsTrue has ↔ Contains names name
IsTrue-list_any has name names e = (
  λ h. Contains-from_any {eq = pointwise nat_eq} (λ x y h. (bytes_eq-Decides x y).0 h) name names (sym e ∙ h),
  λ h. e ∙ list_any-from_Contains nat_list_eq_equiv name names h,
)
