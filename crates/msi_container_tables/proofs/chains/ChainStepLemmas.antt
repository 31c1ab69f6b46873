-- One step along a chain: what follows a last member, and how many numbers are in use.
use Rattle.std.proofs.Common.{◌≡◌, ℕ, ◌+◌, ◌-◌, ◌≤◌, Bool, List, [], ◌∷◌, ◌++◌, length, min, Option, Some, None, sym, ◌∙◌, ap, arith, refl, Vec, Global, vec_len, length-append}
use Rattle.std.specs.Prelude.{slice_get}
use Rattle.std.specs.List.{count_by}
use Rattle.std.proofs.lemmas.List.{length_push}
use Rattle.std.proofs.lemmas.List.Sums.{count_by-le-length}
use Rattle.std.proofs.lemmas.Option.{none-some, same_Some, slice_get-get_or}
use Rattle.msi_container_tables.specs.Walks.{follower}

-- where there is no last member, the start comes next
pub follower_none : (next : ℕ → Option ℕ) (start : ℕ) (xs : List ℕ) → None ≡ slice_get xs (length xs - 1) → follower next start xs ≡ Some start
follower_none next start [] e = refl
follower_none next start (x ∷ xs) e = absurd (none-some _ (e ∙ slice_get-get_or (x ∷ xs) (length (x ∷ xs) - 1) 0 (omega arith)))

-- where there is one, its successor does
pub follower_last : (next : ℕ → Option ℕ) (start last : ℕ) (xs : List ℕ) → Some last ≡ slice_get xs (length xs - 1) → follower next start xs ≡ next last
follower_last next start last [] e = absurd (none-some last (sym e))
follower_last next start last (x ∷ xs) e = ap next (sym (same_Some _ _ (e ∙ slice_get-get_or (x ∷ xs) (length (x ∷ xs) - 1) 0 (omega arith))))

-- no step is taken from no member, and one from a last member
pub step_none : (xs : List ℕ) → None ≡ slice_get xs (length xs - 1) → min 1 (length xs) ≡ 0
step_none [] e = refl
step_none (x ∷ xs) e = absurd (none-some _ (e ∙ slice_get-get_or (x ∷ xs) (length (x ∷ xs) - 1) 0 (omega arith)))

pub step_last : (last : ℕ) (xs : List ℕ) → Some last ≡ slice_get xs (length xs - 1) → min 1 (length xs) ≡ 1
step_last last [] e = absurd (none-some last (sym e))
step_last last (x ∷ xs) e = omega arith

-- as many numbers are in use as were before, and these
pub used_more : (before after more : Vec ℕ Global) → after.items ≡ before.items ++ more.items → vec_len after ≡ vec_len before + vec_len more
used_more before after more e = omega (arith, before.ok, after.ok, more.ok, ap (λ (xs : List ℕ). length xs) e, length-append before.items more.items)

-- one more number is in use
pub used_one_more : (before after : Vec ℕ Global) (number : ℕ) → after.items ≡ before.items ++ number ∷ [] → vec_len after ≡ vec_len before + 1
used_one_more before after number e = omega (arith, before.ok, after.ok, ap (λ (xs : List ℕ). length xs) e, length_push before.items number)

-- as many numbers are in use as were
pub used_same : (before after : Vec ℕ Global) → after.items ≡ before.items → vec_len after ≡ vec_len before
used_same before after e = omega (arith, before.ok, after.ok, ap (λ (xs : List ℕ). length xs) e)

-- no more numbers are in use than there are marks
pub used_most : (marks : Vec Bool Global) (list : Vec ℕ Global) → count_by (λ b. b) marks.items ≡ vec_len list → vec_len list ≤ vec_len marks
used_most marks list e = omega (arith, e, count_by-le-length (λ (b : Bool). b) marks.items, marks.ok)
