-- Values that are tested one after another.
use Rattle.std.proofs.Common.{◌≡◌, ℕ, Bool, ◌&&◌, List, ◌∷◌, subst}
use Rattle.std.specs.Prelude.{◌↔◌, IsTrue}
use Rattle.std.specs.List.{AllByRecursion}
use Rattle.std.proofs.lemmas.Bool.{and_parts, and_from}
use Rattle.msi_summary_properties.specs.declared.propset.PropertyValue.{PropertyValue}

-- where what was tested, and what is left, is the whole, so it is with one value more
pub tests_left : (P : PropertyValue → Type 0) (whole here left : List (ℕ × PropertyValue)) (id : ℕ) (v : PropertyValue) (before now : Bool) → here ≡ (id, v) ∷ left
    → (IsTrue before × AllByRecursion (λ (e : ℕ × PropertyValue). P e.1) here) ↔ AllByRecursion (λ (e : ℕ × PropertyValue). P e.1) whole → IsTrue now ↔ P v
    → (IsTrue (before && now) × AllByRecursion (λ (e : ℕ × PropertyValue). P e.1) left) ↔ AllByRecursion (λ (e : ℕ × PropertyValue). P e.1) whole
tests_left P whole here left id v before now is tests test =
    let opened = subst (λ (es : List (ℕ × PropertyValue)). (IsTrue before × AllByRecursion (λ (e : ℕ × PropertyValue). P e.1) es) ↔ AllByRecursion (λ (e : ℕ × PropertyValue). P e.1) whole) is tests in (
      λ h. let both = and_parts before now h.0 in opened.0 (both.0, (test.0 both.1, h.1)),
      λ h. let r = opened.1 h in (and_from before now r.0 (test.1 r.1.0), r.1.1),
    )
