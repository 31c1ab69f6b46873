-- Where counts are exact, the cells that hold a text are as many as the counts of the places that hold it say.
use Rattle.std.proofs.Common.{◌≡◌, ℕ, zero, suc, ◌+◌, ◌-◌, ◌<◌, ◌≤◌, true, false, cond, List, [], ◌∷◌, length, sum_by, count_by, bytes_eq, if◌then◌else◌, slice_get, nat_lt, nat_le, refl, sym, ap, ◌∙◌, arith, ⊎_elim}
use Rattle.std.specs.List.{list_all}
use Rattle.std.specs.Option.{option_map_or}
use Rattle.std.proofs.lemmas.Bool.{cases_Bool, and_parts}
use Rattle.std.proofs.lemmas.Bool.Decides.{nat_tests}
use Rattle.std.proofs.lemmas.List.Sums.{sum_by-cons}
use Rattle.msi_pool.specs.Pool.{Place}
use Rattle.msi_pool.specs.FirstFit.{count_of}
use Rattle.msi_pool.specs.FirstFitLaws.{text_at}
use Rattle.msi_database_changes.specs.Database.{Database, is_sound, named_numbers, cells_naming, CountsAreExact}
use Rattle.msi_database_changes.specs.Laws.{CountsOfText}
use Rattle.msi_database_schema.proofs.AccountLemmas.{Uses, once}
use Rattle.msi_database_changes.proofs.text_counts.TablesLemmas.{times, times-cons}
use Rattle.msi_database_changes.proofs.steps.StoredLemmas.{WellFormed, sound_parts}

-- how often the places that hold a text are used, where they are numbered from k on
abbrev held : List ℕ → ℕ → List Place → Uses → ℕ
held text k [] u = 0
held text k (p ∷ ps) u = (if bytes_eq p.text text then u k else 0) + held text (suc k) ps u

held-counts : (text : List ℕ) (k : ℕ) (ps : List Place) (u : Uses) → ((i : ℕ) → i < length ps → count_of (slice_get ps i) ≡ u (k + i))
    → sum_by (λ place. if bytes_eq place.text text then place.count else 0) ps ≡ held text k ps u
held-counts text k [] u h = refl
held-counts text k (p ∷ ps) u h =
    let first : p.count ≡ u k = h 0 (omega arith) ∙ ap u (omega arith) in
    let rest = held-counts text (suc k) ps u (λ i l. h (suc i) (omega (arith, l)) ∙ ap u (omega arith)) in
    sum_by-cons (λ place. if bytes_eq place.text text then place.count else 0) p ps ∙ rw (first, rest)

held-same : (text : List ℕ) (k : ℕ) (ps : List Place) (u v : Uses) → ((n : ℕ) → u n ≡ v n) → held text k ps u ≡ held text k ps v
held-same text k [] u v h = refl
held-same text k (p ∷ ps) u v h = rw (h k, held-same text (suc k) ps u v h)

held-plus : (text : List ℕ) (k : ℕ) (ps : List Place) (u v : Uses) → held text k ps (λ n. u n + v n) ≡ held text k ps u + held text k ps v
held-plus text k [] u v = omega arith
held-plus text k (p ∷ ps) u v = ⊎_elim
    (λ (t : bytes_eq p.text text ≡ true). rw t (omega (arith, held-plus text (suc k) ps u v)))
    (λ (t : bytes_eq p.text text ≡ false). rw t (omega (arith, held-plus text (suc k) ps u v)))
    (cases_Bool (bytes_eq p.text text))

held-none : (text : List ℕ) (k : ℕ) (ps : List Place) → held text k ps (λ n. 0) ≡ 0
held-none text k [] = refl
held-none text k (p ∷ ps) = ⊎_elim
    (λ (t : bytes_eq p.text text ≡ true). rw t (omega (arith, held-none text (suc k) ps)))
    (λ (t : bytes_eq p.text text ≡ false). rw t (omega (arith, held-none text (suc k) ps)))
    (cases_Bool (bytes_eq p.text text))

once_at : (x k : ℕ) → x ≡ k → once x k ≡ 1
once_at x k e = grind (arith, nat_tests)

once_off : (x k : ℕ) → x < k → once x k ≡ 0
once_off x k l = grind (arith, nat_tests)

once_after : (x k : ℕ) → k < x → once x k ≡ 0
once_after x k l = grind (arith, nat_tests)

held-before : (text : List ℕ) (x k : ℕ) (ps : List Place) → x < k → held text k ps (once x) ≡ 0
held-before text x k [] l = refl
held-before text x k (p ∷ ps) l = ⊎_elim
    (λ (t : bytes_eq p.text text ≡ true). rw t (omega (arith, once_off x k l, held-before text x (suc k) ps (omega (arith, l)))))
    (λ (t : bytes_eq p.text text ≡ false). rw t (omega (arith, held-before text x (suc k) ps (omega (arith, l)))))
    (cases_Bool (bytes_eq p.text text))

-- one use, of the place i of the list
held-once : (text : List ℕ) (x k i : ℕ) (ps : List Place) → x ≡ k + i → i < length ps → held text k ps (once x) ≡ cond (bytes_eq (option_map_or (λ p. p.text) (slice_get ps i) []) text) 1 0
held-once text x k i [] e l = absurd (omega (arith, l))
held-once text x k zero (p ∷ ps) e l = ⊎_elim
    (λ (t : bytes_eq p.text text ≡ true). rw t (omega (arith, once_at x k (omega (arith, e)), held-before text x (suc k) ps (omega (arith, e)))))
    (λ (t : bytes_eq p.text text ≡ false). rw t (omega (arith, held-before text x (suc k) ps (omega (arith, e)))))
    (cases_Bool (bytes_eq p.text text))
held-once text x k (suc i) (p ∷ ps) e l =
    let rest = held-once text x (suc k) i ps (omega (arith, e)) (omega (arith, l)) in ⊎_elim
    (λ (t : bytes_eq p.text text ≡ true). rw t (omega (arith, once_after x k (omega (arith, e)), rest)))
    (λ (t : bytes_eq p.text text ≡ false). rw t (omega (arith, rest)))
    (cases_Bool (bytes_eq p.text text))

within : (len x : ℕ) → nat_lt 0 x ≡ true → nat_le x len ≡ true → (0 < x) × (x ≤ len)
within len x p q = (grind (arith, nat_tests), grind (arith, nat_tests))

held-number : (text : List ℕ) (ps : List Place) (x : ℕ) → 0 < x → x ≤ length ps → held text 1 ps (once x) ≡ cond (bytes_eq (text_at ps x) text) 1 0
held-number text ps x from_one inside = held-once text x 1 (x - 1) ps (omega (arith, from_one)) (omega (arith, from_one, inside))

held-names : (text : List ℕ) (ps : List Place) (xs : List ℕ) → list_all (λ n. nat_lt 0 n) xs ≡ true → list_all (λ n. nat_le n (length ps)) xs ≡ true
    → held text 1 ps (λ n. times n xs) ≡ count_by (λ number. bytes_eq (text_at ps number) text) xs
held-names text ps [] p q = held-none text 1 ps
held-names text ps (x ∷ xs) p q =
    let ps' = and_parts (nat_lt 0 x) (list_all (λ n. nat_lt 0 n) xs) p in
    let qs' = and_parts (nat_le x (length ps)) (list_all (λ n. nat_le n (length ps)) xs) q in
    let w = within (length ps) x ps'.0 qs'.0 in
    held-same text 1 ps (λ n. times n (x ∷ xs)) (λ n. once x n + times n xs) (λ n. times-cons n x xs)
    ∙ held-plus text 1 ps (once x) (λ n. times n xs)
    ∙ rw (held-number text ps x w.0 w.1, held-names text ps xs ps'.1 qs'.1) (sym (sum_by-cons (λ number. cond (bytes_eq (text_at ps number) text) 1 0) x xs))

pub counts_of_text : (d : Database) (text : List ℕ) → is_sound d ≡ true → WellFormed d → CountsAreExact d → CountsOfText d text
counts_of_text d text sound well exact =
    held-counts text 1 d.pool.places (λ n. cells_naming d n) (λ i l. exact i l ∙ ap (cells_naming d) (omega arith))
    ∙ held-names text d.pool.places (named_numbers d) well.numbers (sound_parts d sound).in_pool
