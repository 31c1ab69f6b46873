-- The texts of free places are lost, one after the other.
use Rattle.std.proofs.Common.{◌≡◌, ℕ, zero, suc, ◌+◌, ◌<◌, ◌≤◌, Bool, List, [], ◌∷◌, ◌++◌, length, get_or, set, take, drop, take_all, refl, ap, ◌∙◌, arith}
use Rattle.std.proofs.lemmas.List.{append-nil, drop_all}
use Rattle.msi_pool_places.specs.Pool.{Place, forgotten, without_unnamed_texts}

-- the places when those before place i were gone through
abbrev pub gone_through : List Bool → List Place → ℕ → List Place
gone_through marks places i = without_unnamed_texts (take i marks) (take i places) ++ drop i places

gone_through-suc : (marks : List Bool) (places : List Place) (i : ℕ) (m : Bool) (p : Place) → i < length marks → length marks ≡ length places
    → set (gone_through marks places i) i (forgotten (get_or marks i m) (get_or (gone_through marks places i) i p)) ≡ gone_through marks places (suc i)
gone_through-suc [] places i m p inside same = absurd (omega arith)
gone_through-suc (n ∷ ns) [] i m p inside same = absurd (omega arith)
gone_through-suc (n ∷ ns) (q ∷ qs) zero m p inside same = refl
gone_through-suc (n ∷ ns) (q ∷ qs) (suc i) m p inside same =
    ap (λ (ps : List Place). forgotten n q ∷ ps) (gone_through-suc ns qs i m p (omega arith) (omega arith))

-- one place more
pub gone_through-more : (marks : List Bool) (places now : List Place) (i : ℕ) (m : Bool) (old new : Place) → i < length marks → length marks ≡ length places
    → now ≡ gone_through marks places i → old ≡ get_or now i old → new ≡ forgotten (get_or marks i m) old
    → set now i new ≡ gone_through marks places (i + 1)
gone_through-more marks places now i m old new inside same now_is old_is new_is =
    let next : suc i ≡ i + 1 = omega arith in
    ap (set now i) (new_is ∙ ap (forgotten (get_or marks i m)) old_is)
    ∙ ap (λ (ps : List Place). set ps i (forgotten (get_or marks i m) (get_or ps i old))) now_is
    ∙ gone_through-suc marks places i m old inside same
    ∙ ap (gone_through marks places) next

-- all of them
pub gone_through-all : (marks : List Bool) (places : List Place) (i : ℕ) → length marks ≡ length places → length marks ≤ i
    → gone_through marks places i ≡ without_unnamed_texts marks places
gone_through-all marks places i same all =
    rw (take_all i marks all, take_all i places (omega arith), drop_all i places (omega arith), append-nil) refl
