-- The texts of free places are lost where a test says so, and when the pool is written.
use Rattle.std.proofs.Common.{◌≡◌, ℕ, suc, ◌+◌, ◌<◌, Bool, true, false, cond, ◌&&◌, List, [], ◌∷◌, length, map, get_or, refl, sym, ap, ◌∙◌, arith, inl, inr}
use Rattle.std.specs.List.{enumerate_from}
use Rattle.std.specs.Prelude.{◌==◌, not, if◌then◌else◌}
use Rattle.std.proofs.lemmas.Bool.{cases_eq, eq-eqb, eqb-true, ne_eqb}
use Rattle.msi_pool_places.specs.Pool.{Place, Pool, PlacesWritten, forgotten, without_unnamed_texts}
use Rattle.msi_pool.specs.PoolLaws.{EmptyPlacesAreWritten, MarksStandForTests}

-- a place that is free has the empty text
kept_empty : (p : Place) → (p.count ≡ 0 → p.text ≡ []) → forgotten false p ≡ p
kept_empty p written =
    let text : (forgotten false p).text ≡ p.text = elim (cases_eq p.count 0) [
      | inl free ↦ ap (λ b. cond (b && true) [] p.text) (eq-eqb p.count 0 free) ∙ sym (written free)
      | inr used ↦ ap (λ b. cond (b && true) [] p.text) (ne_eqb p.count 0 used)
    ] in
    let with_text : List ℕ → Place = λ t. record { text = t; count = p.count } in
    ap with_text text

all_empty : (places : List Place) → PlacesWritten places → map (forgotten false) places ≡ places
all_empty [] written = refl
all_empty (p ∷ ps) written =
    ap (λ (q : Place). q ∷ map (forgotten false) ps) (kept_empty p written.0) ∙ ap (λ (qs : List Place). p ∷ qs) (all_empty ps written.1)

pub empty_places : EmptyPlacesAreWritten
empty_places pool written =
    let with_places : List Place → Pool = λ ps. record { page = pool.page; long = pool.long; places = ps } in
    ap with_places (all_empty pool.places written)

-- where no free place has a text, none is lost
written_text : (p : Place) (named is_free : Bool) → (p.count == 0) ≡ is_free → (p.count ≡ 0 → p.text ≡ []) → (if is_free && not named then [] else p.text) ≡ p.text
written_text p named false e empty = refl
written_text p true true e empty = refl
written_text p false true e empty = sym (empty (eqb-true p.count 0 e))

pub none_lost : (is_named : ℕ → Bool) (i : ℕ) (places : List Place) → PlacesWritten places → map (λ e. forgotten (is_named e.0) e.1) (enumerate_from i places) ≡ places
none_lost is_named i [] h = refl
none_lost is_named i (p ∷ ps) h = λ k. record { text = written_text p (is_named i) (p.count == 0) refl h.0 k; count = p.count } ∷ none_lost is_named (i + 1) ps h.1 k

marks_from : (marks : List Bool) (is_named : ℕ → Bool) (places : List Place) (k : ℕ) → length marks ≡ length places
    → ((i : ℕ) → i < length marks → get_or marks i false ≡ is_named (k + i))
    → without_unnamed_texts marks places ≡ map (λ e. forgotten (is_named e.0) e.1) (enumerate_from k places)
marks_from [] is_named [] k same marks_are = refl
marks_from [] is_named (p ∷ ps) k same marks_are = absurd (omega arith)
marks_from (m ∷ ms) is_named [] k same marks_are = absurd (omega arith)
marks_from (m ∷ ms) is_named (p ∷ ps) k same marks_are =
    let here : k + 0 ≡ k = omega arith in
    let first : m ≡ is_named k = marks_are 0 (omega arith) ∙ ap is_named here in
    let others = marks_from ms is_named ps (k + 1) (omega arith) (λ i lt.
    let next : k + suc i ≡ k + 1 + i = omega arith in marks_are (suc i) (omega arith) ∙ ap is_named next) in
    ap (λ b. forgotten b p ∷ without_unnamed_texts ms ps) first ∙ ap (λ (ps : List Place). forgotten (is_named k) p ∷ ps) others

pub marks_stand : MarksStandForTests
marks_stand marks is_named places same marks_are =
    marks_from marks is_named places 1 same (λ i lt. let next : i + 1 ≡ 1 + i = omega arith in marks_are i lt ∙ ap is_named next)
