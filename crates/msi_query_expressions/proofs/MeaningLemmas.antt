-- Names and what they mean.
use Rattle.std.proofs.Common.{◌≡◌, ℕ, Bool, true, false, not, List, [], ◌∷◌, ◌||◌, ◌&&◌, if◌then◌else◌, refl, ap, ap₂, sym, ◌∙◌}
use Rattle.std.proofs.Common.{⊎_elim, subst}
use Rattle.std.proofs.lemmas.Bool.{cases_Bool}
use Rattle.std.specs.Prelude.{Option, Some, None, IsTrue, filter}
use Rattle.std.specs.List.{list_any}
use Rattle.msi_table_values.specs.Columns.{ColumnDef}
use Rattle.msi_query_expressions.specs.Expressions.{Expression, literal, column, unary, binary, both, either}
use Rattle.msi_query_expressions.specs.Folding.{is_built, is_folded, is_literal, literals_fit}
use Rattle.msi_query_expressions.specs.Meaning.{only, renamed}

-- whether others behind the first one pass the test
pub only_first : (p : ColumnDef → Bool) (c : ColumnDef) (rest : List ColumnDef)
    → only (c ∷ filter p rest) ≡ (if list_any p rest then None else Some c)
only_first p c [] = refl
only_first p c (d ∷ rest) = ⊎_elim
    (λ e. ap (λ b. only (c ∷ (if b then d ∷ filter p rest else filter p rest))) e ∙ sym (ap (λ b. if (b || list_any p rest) then None else Some c) e))
    (λ e. ap (λ b. only (c ∷ (if b then d ∷ filter p rest else filter p rest))) e ∙ only_first p c rest ∙ sym (ap (λ b. if (b || list_any p rest) then None else Some c) e))
    (cases_Bool (p d))

-- other names leave an expression one that the constructors make
literal_renamed : (f : List ℕ → List ℕ) (e : Expression) → is_literal (renamed f e) ≡ is_literal e
literal_renamed f (literal v) = refl
literal_renamed f (column n) = refl
literal_renamed f (unary op e) = refl
literal_renamed f (binary op l r) = refl
literal_renamed f (both l r) = refl
literal_renamed f (either l r) = refl

folded_renamed : (f : List ℕ → List ℕ) (e : Expression) → is_folded (renamed f e) ≡ is_folded e
folded_renamed f (literal v) = refl
folded_renamed f (column n) = refl
folded_renamed f (unary op e) = ap₂ (λ a b. not a && b) (literal_renamed f e) (folded_renamed f e)
folded_renamed f (binary op l r) =
    ap₂ (λ a b. a && b)
    (ap₂ (λ a b. not a && b) (ap₂ (λ a b. a && b) (literal_renamed f l) (literal_renamed f r)) (folded_renamed f l))
    (folded_renamed f r)
folded_renamed f (both l r) = ap₂ (λ a b. a && b) (folded_renamed f l) (folded_renamed f r)
folded_renamed f (either l r) = ap₂ (λ a b. a && b) (folded_renamed f l) (folded_renamed f r)

fits_renamed : (f : List ℕ → List ℕ) (e : Expression) → literals_fit (renamed f e) ≡ literals_fit e
fits_renamed f (literal v) = refl
fits_renamed f (column n) = refl
fits_renamed f (unary op e) = fits_renamed f e
fits_renamed f (binary op l r) = ap₂ (λ a b. a && b) (fits_renamed f l) (fits_renamed f r)
fits_renamed f (both l r) = ap₂ (λ a b. a && b) (fits_renamed f l) (fits_renamed f r)
fits_renamed f (either l r) = ap₂ (λ a b. a && b) (fits_renamed f l) (fits_renamed f r)

pub renamed_is_built : (f : List ℕ → List ℕ) (e : Expression) → IsTrue (is_built e) → IsTrue (is_built (renamed f e))
renamed_is_built f e h = subst IsTrue (sym (ap₂ (λ a b. a && b) (folded_renamed f e) (fits_renamed f e))) h
