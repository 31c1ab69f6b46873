-- Counts are set place by place.
use Rattle.std.proofs.Common.{◌≡◌, ℕ, zero, suc, ◌+◌, ◌<◌, Bool, cond, not, List, [], ◌∷◌, ◌++◌, length, get_or, set, take, drop, refl, sym, ap, ◌∙◌, arith}
use Rattle.std.specs.Prelude.{zip, ◌==◌, ◌^◌, All}
use Rattle.std.proofs.lemmas.List.Sums.{sum_by-cons}
use Rattle.msi_pool_places.specs.Pool.{CountsFit, Place}
use Rattle.msi_pool_places.specs.Recounting.{many_recounted, with_count, with_counts}

-- the places when those before place i were set, and how many of those got another count
abbrev pub set_before : List ℕ → List Place → ℕ → List Place
set_before counts places i = with_counts (take i counts) (take i places) ++ drop i places

abbrev pub changed_before : List ℕ → List Place → ℕ → ℕ
changed_before counts places i = many_recounted (take i counts) (take i places)

set_before-suc : (counts : List ℕ) (places : List Place) (i n : ℕ) (p : Place) → i < length counts → length counts ≡ length places
    → set (set_before counts places i) i (with_count (get_or counts i n) (get_or (set_before counts places i) i p)) ≡ set_before counts places (suc i)
set_before-suc [] places i n p inside same = absurd (omega arith)
set_before-suc (c ∷ cs) [] i n p inside same = absurd (omega arith)
set_before-suc (c ∷ cs) (q ∷ qs) zero n p inside same = refl
set_before-suc (c ∷ cs) (q ∷ qs) (suc i) n p inside same = ap (λ (ps : List Place). with_count c q ∷ ps) (set_before-suc cs qs i n p (omega arith) (omega arith))

-- one place more
pub set_before-more : (counts : List ℕ) (places now : List Place) (i n : ℕ) (old new : Place) → i < length counts → length counts ≡ length places
    → now ≡ set_before counts places i → old ≡ get_or now i old → new ≡ with_count (get_or counts i n) old
    → set now i new ≡ set_before counts places (i + 1)
set_before-more counts places now i n old new inside same now_is old_is new_is =
    let next : suc i ≡ i + 1 = omega arith in
    ap (set now i) (new_is ∙ ap (with_count (get_or counts i n)) old_is)
    ∙ ap (λ (ps : List Place). set ps i (with_count (get_or counts i n) (get_or ps i old))) now_is
    ∙ set_before-suc counts places i n old inside same
    ∙ ap (set_before counts places) next

pub many_recounted-cons : (c : ℕ) (cs : List ℕ) (q : Place) (qs : List Place) → many_recounted (c ∷ cs) (q ∷ qs) ≡ cond (not (c == q.count)) 1 0 + many_recounted cs qs
many_recounted-cons c cs q qs = sum_by-cons (λ e. cond (not (e.0 == e.1.count)) 1 0) (c, q) (zip cs qs)

changed_before-suc : (counts : List ℕ) (places : List Place) (i n : ℕ) (p : Place) → i < length counts → length counts ≡ length places
    → changed_before counts places (suc i) ≡ changed_before counts places i + cond (not (get_or counts i n == (get_or (set_before counts places i) i p).count)) 1 0
changed_before-suc [] places i n p inside same = absurd (omega arith)
changed_before-suc (c ∷ cs) [] i n p inside same = absurd (omega arith)
changed_before-suc (c ∷ cs) (q ∷ qs) zero n p inside same = refl
changed_before-suc (c ∷ cs) (q ∷ qs) (suc i) n p inside same =
    omega (arith, many_recounted-cons c (take (suc i) cs) q (take (suc i) qs), many_recounted-cons c (take i cs) q (take i qs), changed_before-suc cs qs i n p (omega arith) (omega arith))

-- one count more
pub changed_before-more : (counts : List ℕ) (places now : List Place) (i n many : ℕ) (old : Place) (is_changed : Bool) → i < length counts → length counts ≡ length places
    → now ≡ set_before counts places i → old ≡ get_or now i old → is_changed ≡ not (get_or counts i n == old.count) → many ≡ changed_before counts places i
    → many + cond is_changed 1 0 ≡ changed_before counts places (i + 1)
changed_before-more counts places now i n many old is_changed inside same now_is old_is changed_is many_is =
    let next : suc i ≡ i + 1 = omega arith in
    let there : old ≡ get_or (set_before counts places i) i old = old_is ∙ ap (λ (ps : List Place). get_or ps i old) now_is in
    let so : is_changed ≡ not (get_or counts i n == (get_or (set_before counts places i) i old).count) = changed_is ∙ ap (λ (p : Place). not (get_or counts i n == p.count)) there in
    ap (λ m. m + cond is_changed 1 0) many_is ∙ ap (λ b. changed_before counts places i + cond b 1 0) so
    ∙ sym (changed_before-suc counts places i n old inside same) ∙ ap (changed_before counts places) next

-- as many places
pub length-with_counts : (counts : List ℕ) (places : List Place) → length counts ≡ length places → length (with_counts counts places) ≡ length places
length-with_counts [] [] same = refl
length-with_counts [] (p ∷ ps) same = absurd (omega (arith, same))
length-with_counts (c ∷ cs) [] same = absurd (omega (arith, same))
length-with_counts (c ∷ cs) (p ∷ ps) same = ap suc (length-with_counts cs ps (omega (arith, same)))

-- counts of 16 bits
pub CountsFit-with_counts : (counts : List ℕ) (places : List Place) → All (λ n. n < 2 ^ 16) counts → CountsFit (with_counts counts places)
CountsFit-with_counts [] places fit = tt
CountsFit-with_counts (c ∷ cs) [] fit = tt
CountsFit-with_counts (c ∷ cs) (p ∷ ps) fit = (fit 0 0 (omega arith), CountsFit-with_counts cs ps (λ k d l. fit (suc k) d (omega (arith, l))))
