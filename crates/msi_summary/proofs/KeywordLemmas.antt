-- A text that `split` cuts at each `; `.
use Rattle.std.proofs.Common.{◌≡◌, ℕ, zero, suc, ◌≤◌, ◌<◌, Bool, true, false, cond, List, [], ◌∷◌, ◌++◌, length, take, drop, map, Option, Some, None, refl, sym, ap, subst, ◌∙◌, arith, inl, inr}
use Rattle.std.specs.Prelude.{◌==◌, ◌&&◌, ◌≢◌, MatchOption}
use Rattle.std.specs.List.{join_by}
use Rattle.std.specs.Str.Iter.{split_steps, split_text, split_has_more, split_pattern}
use Rattle.std.specs.Str.Pattern.{FindsText, LacksTextAt}
use Rattle.std.proofs.lemmas.Bool.{cases_Bool, and_parts, eqb-true}
use Rattle.std.proofs.lemmas.List.Folds.{flat_map-map}
use Rattle.std.proofs.lemmas.Iterator.{YieldsList}
use Rattle.std.proofs.lemmas.Iterator.Splits.{YieldsList-from_shown_while}
use denote.Ref.{Bor}
use Rattle.msi_summary.specs.Summary.{keyword_pieces}

abbrev mark : List ℕ
mark = 59 ∷ 32 ∷ []

-- where the mark doesn't stand in front, the first byte is of the first piece
not_marked : (c d : ℕ) (cs : List ℕ) → ((rest : List ℕ) → c ∷ d ∷ cs ≢ mark ++ rest) → ((c == 59) && (d == 32)) ≡ false
not_marked c d cs h = elim (cases_Bool ((c == 59) && (d == 32))) [
  | inl t ↦
      let both = and_parts (c == 59) (d == 32) t in
      let e : c ≡ 59 = eqb-true c 59 both.0 in
      let f : d ≡ 32 = eqb-true d 32 both.1 in
      absurd (h cs (rw (e, f) refl))
  | inr f ↦ f
]

pub keyword_pieces_none : (bs : List ℕ) → ((i : ℕ) → i ≤ length bs → LacksTextAt mark bs i) → keyword_pieces bs ≡ bs ∷ []
keyword_pieces_none [] h = refl
keyword_pieces_none (c ∷ []) h = refl
keyword_pieces_none (c ∷ d ∷ cs) h =
    let f : ((c == 59) && (d == 32)) ≡ false = not_marked c d cs (h 0 (omega arith)) in
    rw (f, keyword_pieces_none (d ∷ cs) (λ i lt. h (suc i) (omega arith))) refl

pub keyword_pieces_at : (i : ℕ) (bs rest : List ℕ) → ((k : ℕ) → k < i → LacksTextAt mark bs k) → drop i bs ≡ mark ++ rest → keyword_pieces bs ≡ take i bs ∷ keyword_pieces rest
keyword_pieces_at zero bs rest h e = rw e refl
keyword_pieces_at (suc i) [] rest h e = absurd cc
keyword_pieces_at (suc zero) (c ∷ []) rest h e = absurd cc
keyword_pieces_at (suc (suc i)) (c ∷ []) rest h e = absurd cc
keyword_pieces_at (suc i) (c ∷ d ∷ cs) rest h e =
    let f : ((c == 59) && (d == 32)) ≡ false = not_marked c d cs (h 0 (omega arith)) in
    rw (f, keyword_pieces_at i (d ∷ cs) rest (λ k lt. h (suc k) (omega arith)) e) refl

-- one step takes off the first piece
cut_at : (w x rest : List ℕ) (live : Bool) (o : Option (ℕ × ℕ)) → FindsText mark w o
    → MatchOption o ((x ≡ w) × (live ≡ false)) (λ q. 0 < q.1 → (x ≡ take q.0 w) × (live ≡ true) × (rest ≡ drop q.1 w))
    → keyword_pieces w ≡ x ∷ cond live (keyword_pieces rest) []
cut_at w x rest live None finds m = rw (m.0, m.1) (keyword_pieces_none w finds)
cut_at w x rest live (Some q) finds m =
    let past : 0 < q.1 = omega (arith, finds.1.ends) in
    let n = m past in
    rw (n.0, n.1, n.2) (keyword_pieces_at q.0 w (drop q.1 w) finds.0 finds.1.split)

pub YieldsList-from_keyword_pieces : {s : _} (bs : List ℕ) → split_text {P = Bor (List ℕ)} s ≡ bs → split_has_more s ≡ true → (split_pattern s).now ≡ mark
    → YieldsList (split_steps (λ (n : Bor (List ℕ)). FindsText n.now) (λ n m. m.now ≡ n.now)) (λ x. x.now) s (keyword_pieces bs)
YieldsList-from_keyword_pieces {s} bs text more pattern =
    let steps = split_steps (λ (n : Bor (List ℕ)). FindsText n.now) (λ n m. m.now ≡ n.now) in
    let shown = λ (t : _). cond (split_has_more t) (keyword_pieces (split_text t)) [] in
    subst (YieldsList steps (λ x. x.now) s) (λ i. cond (more i) (keyword_pieces (text i)) [])
    (YieldsList-from_shown_while steps (λ x. x.now) shown (λ t. (split_pattern t).now ≡ mark)
    (λ t u h k. ap (λ b. length (cond b (keyword_pieces (split_text t)) [])) (sym k.0))
    (λ t x u h k.
    let cut = k.1.1.1 in (
      k.1.0 ∙ h,
      ap (λ b. cond b (keyword_pieces (split_text t)) []) (sym k.0)
          ∙ cut_at (split_text t) x.now (split_text u) (split_has_more u) cut.0 (subst (λ n. FindsText n (split_text t) cut.0) h cut.1) cut.2,
    ))
    s pattern)

-- what is joined may be mapped first
pub join_by-map : {A B C : Type 0} (f : A → B) (g : B → List C) (sep : List C) (xs : List A) → join_by g sep (map f xs) ≡ join_by (λ x. g (f x)) sep xs
join_by-map f g sep [] = refl
join_by-map {C = C} f g sep (x ∷ xs) = ap (λ (ys : List C). g (f x) ++ ys) (flat_map-map (λ y. sep ++ g y) f xs)
