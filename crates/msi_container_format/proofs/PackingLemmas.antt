-- Packing a name from its front, one character after the other, gives what packing its longest runs gives.
use Rattle.std.proofs.Common.{◌≡◌, ℕ, List, [], ◌∷◌, ◌++◌, map, Option, Some, None, filter, filter_map, is_none, refl, ap}
use Rattle.std.specs.List.{slice_split, onto_first}
use Rattle.msi_container_format.specs.StreamNames.{value_of, packed, packed_pair, packed_run, packed_single, joined_around}

-- what a character adds to the packed name, by the value that waits for a partner and by its own value
abbrev pub added : Option ℕ → Option ℕ → ℕ → List ℕ
added None None c = c ∷ []
added None (Some w) c = []
added (Some v) None c = packed_single v ∷ c ∷ []
added (Some v) (Some w) c = packed_pair v w ∷ []

-- the value that waits after it
abbrev pub waiting_after : Option ℕ → Option ℕ → Option ℕ
waiting_after None value = value
waiting_after (Some v) value = None

-- what a value that waits at the end adds
abbrev pub added_last : Option ℕ → List ℕ
added_last None = []
added_last (Some v) = packed_single v ∷ []

module _ (value : ℕ → Option ℕ) where
  -- what characters add to the packed name, where a value may wait
  abbrev pub packed_from : Option ℕ → List ℕ → List ℕ
  packed_from waiting [] = added_last waiting
  packed_from waiting (c ∷ cs) = added waiting (value c) c ++ packed_from (waiting_after waiting (value c)) cs

  -- the definition, for these values
  abbrev packed_of_run : List ℕ → List ℕ
  packed_of_run run = packed_run (filter_map value run)

  abbrev packed_runs : List ℕ → List ℕ
  packed_runs cs = joined_around (map packed_of_run (slice_split (λ c. is_none (value c)) cs)) (filter (λ c. is_none (value c)) cs)

  -- the first run, where it begins with two characters, and where it is one
  pair_in_front : (b c v w : ℕ) → value b ≡ Some v → value c ≡ Some w → (parts : List (List ℕ)) (between : List ℕ)
      → joined_around (map packed_of_run (onto_first b (onto_first c parts))) between ≡ packed_pair v w ∷ joined_around (map packed_of_run parts) between
  pair_in_front b c v w p q [] [] = rw (p, q)
  pair_in_front b c v w p q [] (x ∷ xs) = rw (p, q)
  pair_in_front b c v w p q (part ∷ parts) [] = rw (p, q)
  pair_in_front b c v w p q (part ∷ parts) (x ∷ xs) = rw (p, q)

  run_of_one : (b v : ℕ) → value b ≡ Some v → packed_of_run (b ∷ []) ≡ packed_single v ∷ []
  run_of_one b v p = rw p

  -- the same characters, where none waits, and where a character b does
  AreSame : List ℕ → Type 0
  AreSame cs = (packed_from None cs ≡ packed_runs cs) × ((b v : ℕ) → value b ≡ Some v → packed_from (Some v) cs ≡ packed_runs (b ∷ cs))

  same_at : (c : ℕ) (cs : List ℕ) (o : Option ℕ) → value c ≡ o → AreSame cs → AreSame (c ∷ cs)
  unfolding AreSame
  same_at c cs None e (none, one) =
      (rw e (ap (λ more. c ∷ more) none), λ b v p. rw (p, e, run_of_one b v p) (ap (λ more. packed_single v ∷ c ∷ more) none))
  same_at c cs (Some w) e (none, one) =
      (rw e (rw e at (one c w e)), λ b v p. rw (p, e, pair_in_front b c v w p e) (ap (λ more. packed_pair v w ∷ more) none))

  same : (cs : List ℕ) → AreSame cs
  unfolding AreSame
  same [] = (refl, λ b v p. rw (p, run_of_one b v p))
  same (c ∷ cs) = same_at c cs (value c) refl (same cs)

-- packing from the front gives what packing the longest runs gives
pub packed_is : (cs : List ℕ) → packed_from value_of None cs ≡ packed cs
unfolding same AreSame
packed_is cs = (same value_of cs).0
