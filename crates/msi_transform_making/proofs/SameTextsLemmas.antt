-- The numbers of the same texts, one after another.
use Rattle.std.proofs.Common.{◌≡◌, ℕ, zero, suc, ◌+◌, ◌<◌, ◌≤◌, List, [], ◌∷◌, ◌++◌, length, get_or, sym, ap, subst, ◌∙◌, inl, inr, arith}
use Rattle.std.proofs.lemmas.Bool.{cases_eq, cases_lt}
use Rattle.std.proofs.lemmas.List.{get_or_append_left, get_or_past, get_or_push, length_push}
use Rattle.msi_pool.specs.Pool.{Place}
use Rattle.msi_pool.specs.FirstFitLaws.{text_at}
use Rattle.msi_transform_making.specs.LeftOut.{AreSameTexts}

pub no_texts : (old new : List Place) → AreSameTexts old new (0 ∷ [])
no_texts old new zero h = absurd (omega (arith, h))
no_texts old new (suc k) h = absurd (omega (arith, h))

pub texts_push : (old new : List Place) (before after : List ℕ) (n other : ℕ) → after ≡ before ++ other ∷ [] → length before ≡ n
    → (0 < other → text_at old n ≡ text_at new other) → AreSameTexts old new before → AreSameTexts old new after
texts_push old new before after n other p l here are = subst (AreSameTexts old new) (sym p) pushed
  where
    pushed : AreSameTexts old new (before ++ other ∷ [])
    pushed k h = elim (cases_lt k (length before)) [
      | inl lt ↦ let e : get_or (before ++ other ∷ []) k 0 ≡ get_or before k 0 = get_or_append_left before (other ∷ []) 0 k lt in
          are k (subst (λ (m : ℕ). 0 < m) e h) ∙ ap (text_at new) (sym e)
      | inr ge ↦ elim (cases_eq k n) [
        | inl at ↦ let e : get_or (before ++ other ∷ []) k 0 ≡ other = ap (λ (m : ℕ). get_or (before ++ other ∷ []) m 0) at ∙ get_or_push before other 0 n l in
            ap (text_at old) at ∙ here (subst (λ (m : ℕ). 0 < m) e h) ∙ ap (text_at new) (sym e)
        | inr ne ↦ let past : length (before ++ other ∷ []) ≤ k = omega (arith, length_push before other) in
            let e : get_or (before ++ other ∷ []) k 0 ≡ 0 = get_or_past (before ++ other ∷ []) k 0 past in
            absurd (omega (arith, h, e))
      ]
    ]
