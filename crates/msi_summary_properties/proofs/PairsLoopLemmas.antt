-- Reading pairs one after the other, as a loop does.
use Rattle.std.proofs.Common.{◌≡◌, ℕ, suc, ◌-◌, ◌+◌, ◌≤◌, ◌<◌, List, [], ◌∷◌, ◌++◌, Option, Some, None, refl, sym, ap, ◌∙◌, append_assoc, arith}
use Rattle.std.specs.Int.{w32}
use Rattle.std.proofs.lemmas.List.{append-nil}
use Rattle.msi_base.specs.declared.errors.ErrorKind.{ErrorKind}
use Rattle.msi_base.specs.declared.errors.ErrorKind.TheVariants as kind
use Rattle.msi_base.specs.Numbers.{number_at}
use Rattle.msi_base.specs.Results.{◌>>=◌, FailsAs}
use Rattle.msi_summary_properties.specs.Reading.{pairs_at}

-- what was read before, and what is still read
abbrev pub with_front : List (ℕ × ℕ) → Option (List (ℕ × ℕ)) → Option (List (ℕ × ℕ))
with_front front read = read >>= λ x. Some (front ++ x)

regroup : (front : List (ℕ × ℕ)) (p : ℕ × ℕ) (read : Option (List (ℕ × ℕ))) → with_front front (read >>= λ x. Some (p ∷ x)) ≡ with_front (front ++ p ∷ []) read
regroup front p (Some x) = ap (λ (ps : List (ℕ × ℕ)). Some ps) (simp append_assoc)
regroup front p None = refl

pub goes_on : (front : List (ℕ × ℕ)) (count i : ℕ) (bytes : List ℕ) (id place : ℕ) (mid after : List ℕ) (total : Option (List (ℕ × ℕ))) → i < count → number_at w32 bytes ≡ Some (id, mid) → number_at w32 mid ≡ Some (place, after)
    → with_front front (pairs_at (count - i) bytes) ≡ total → with_front (front ++ (id, place) ∷ []) (pairs_at (count - (i + 1)) after) ≡ total
unfolding pairs_at
goes_on front count i bytes id place mid after total lt h g so_far =
    let k : count - i ≡ suc (count - (i + 1)) = omega arith in
    let one : with_front front (pairs_at (count - i) bytes) ≡ with_front (front ++ (id, place) ∷ []) (pairs_at (count - (i + 1)) after) = rw (k, h, g) (regroup front (id, place) (pairs_at (count - (i + 1)) after)) in
    sym one ∙ so_far

pub no_id : (e : ErrorKind) (front : List (ℕ × ℕ)) (count i : ℕ) (bytes : List ℕ) (total : Option (List (ℕ × ℕ))) → i < count → FailsAs e (number_at w32 bytes)
    → with_front front (pairs_at (count - i) bytes) ≡ total → FailsAs e total
unfolding pairs_at
no_id kind.AlreadyExists front count i bytes total lt h so_far = absurd h
no_id kind.InvalidData front count i bytes total lt h so_far =
    let k : count - i ≡ suc (count - (i + 1)) = omega arith in
    let one : with_front front (pairs_at (count - i) bytes) ≡ None = rw (k, h) refl in
    sym so_far ∙ one
no_id kind.InvalidInput front count i bytes total lt h so_far = absurd h
no_id kind.NotFound front count i bytes total lt h so_far = absurd h
no_id kind.Io front count i bytes total lt h so_far = absurd h
no_id kind.OutOfMemory front count i bytes total lt h so_far = tt

pub no_place : (e : ErrorKind) (front : List (ℕ × ℕ)) (count i : ℕ) (bytes : List ℕ) (id : ℕ) (mid : List ℕ) (total : Option (List (ℕ × ℕ))) → i < count → number_at w32 bytes ≡ Some (id, mid) → FailsAs e (number_at w32 mid)
    → with_front front (pairs_at (count - i) bytes) ≡ total → FailsAs e total
unfolding pairs_at
no_place kind.AlreadyExists front count i bytes id mid total lt g h so_far = absurd h
no_place kind.InvalidData front count i bytes id mid total lt g h so_far =
    let k : count - i ≡ suc (count - (i + 1)) = omega arith in
    let one : with_front front (pairs_at (count - i) bytes) ≡ None = rw (k, g, h) refl in
    sym so_far ∙ one
no_place kind.InvalidInput front count i bytes id mid total lt g h so_far = absurd h
no_place kind.NotFound front count i bytes id mid total lt g h so_far = absurd h
no_place kind.Io front count i bytes id mid total lt g h so_far = absurd h
no_place kind.OutOfMemory front count i bytes id mid total lt g h so_far = tt

pub is_done : (front : List (ℕ × ℕ)) (count i : ℕ) (bytes : List ℕ) (total : Option (List (ℕ × ℕ))) → count ≤ i → with_front front (pairs_at (count - i) bytes) ≡ total → total ≡ Some front
unfolding pairs_at
is_done front count i bytes total le so_far =
    let k : count - i ≡ 0 = omega arith in
    let one : with_front front (pairs_at (count - i) bytes) ≡ Some front = rw k (ap (λ (ps : List (ℕ × ℕ)). Some ps) (append-nil front)) in
    sym so_far ∙ one
