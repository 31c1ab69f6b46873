-- What stands from a unit on, of parts laid in order: its bytes, whether it is a part's last, and where it is found.
use Rattle.std.proofs.Common.{◌≡◌, ℕ, zero, suc, ◌+◌, ◌-◌, ◌*◌, ◌<◌, ◌≤◌, true, false, leb, eqb, List, [], ◌∷◌, ◌++◌, length, get_or, take, drop, map, inl, inr, sym, ◌∙◌, ap, subst, arith, refl}
use borrow.Rule.Slice.PartMut.{mid_of, put_mid}
use Rattle.std.proofs.Math.Nat.{mul-le-mul_left}
use Rattle.std.proofs.lemmas.Slice.{take-put_mid}
use Rattle.std.proofs.lemmas.List.FromFn.{length-map-range_with_len}
use Rattle.std.proofs.lemmas.Bool.{cases_lt, lt-ltb, le-ltb, le-leb, lt-leb, leb-true, leb-false, eq-eqb, ne_eqb}
use Rattle.std.proofs.lemmas.Grind.{div_ceil_times}
use Rattle.std.proofs.lemmas.List.{length-take-le, length-drop, get_or-drop, drop_all}
use Rattle.std.specs.List.{range_with_len}
use Rattle.msi_container_format.specs.Bytes.{bytes_at}
use Rattle.std.specs.List.Sorted.{IsPartitionedBy, IsPartitionPoint}
use Rattle.msi_container_write.specs.Extents.{units, all_units, laid_byte, is_last}
use Rattle.msi_container_write.specs.Index.{rest_from}
use Rattle.msi_container_write.proofs.placing.RangeLemmas.{map_range_same, shifted, range_more}

-- BYTES

-- a byte of a unit below others
byte_below : (size U n p : ℕ) → p < size → n < U → size * n + p < U * size
byte_below size U n p l b = let h : size * (n + 1) ≤ size * U = mul-le-mul_left size (omega arith) in omega arith

-- a byte of unit k behind U others
byte_behind : (size U n k p : ℕ) → n ≡ U + k → size * n + p - U * size ≡ size * k + p
byte_behind size U n k p e = rw e (omega arith)

byte_past : (size U n p : ℕ) → U ≤ n → U * size ≤ size * n + p
byte_past size U n p b = let h : size * U ≤ size * n = mul-le-mul_left size b in omega arith

-- byte p of unit n
pub laid_rest : (size : ℕ) (parts : List (List ℕ)) (n p : ℕ) → p < size → laid_byte size parts (size * n + p) ≡ get_or (rest_from size parts n) p 0
laid_rest size [] n p l = refl
laid_rest size (part ∷ parts) n p l =
    let U = units size part in
    elim (cases_lt n U) [
      | inl b ↦ rw (lt-ltb n U b, lt-ltb (size * n + p) (U * size) (byte_below size U n p l b)) (sym (get_or-drop (size * n) part p 0))
      | inr b ↦
          let e : size * n + p - U * size ≡ size * (n - U) + p = byte_behind size U n (n - U) p (omega arith) in
          rw (le-ltb n U b, le-ltb (size * n + p) (U * size) (byte_past size U n p b), e) (laid_rest size parts (n - U) p l)
    ]

-- UNITS

-- a part's last unit has no more than a unit's bytes
no_more : (long size U n : ℕ) → long ≤ U * size → n + 1 ≡ U → long - size * n ≤ size
no_more long size U n most e =
    let h : U * size ≡ size * n + size = rw (sym e) (omega arith) in
    omega arith

-- each before it has more
some_more : (long size U n : ℕ) → U * size < long + size → n + 1 < U → size < long - size * n
some_more long size U n least l =
    let h : size * (n + 2) ≤ size * U = mul-le-mul_left size (omega arith) in
    omega arith

last_of : (size : ℕ) (part : List ℕ) (n : ℕ) → 0 < size → n < units size part → eqb (n + 1) (units size part) ≡ leb (length (drop (size * n) part)) size
last_of size part n some l =
    let U = units size part in
    let covered = div_ceil_times (length part) size some in
    let long : length (drop (size * n) part) ≡ length part - size * n = length-drop (size * n) part in
    elim (cases_lt (n + 1) U) [
      | inl more ↦
          let h = some_more (length part) size U n covered.1 more in
          rw (ne_eqb (n + 1) U (λ e. absurd (omega arith)), long, lt-leb (length part - size * n) size h) refl
      | inr last ↦
          let e : n + 1 ≡ U = omega arith in
          let h = no_more (length part) size U n covered.0 e in
          rw (eq-eqb (n + 1) U e, long, le-leb (length part - size * n) size h) refl
    ]

-- whether unit n is the last of its part
pub last_rest : (size : ℕ) (parts : List (List ℕ)) (n : ℕ) → 0 < size → is_last size parts n ≡ leb (length (rest_from size parts n)) size
last_rest size [] n some = sym (le-leb 0 size (omega arith))
last_rest size (part ∷ parts) n some =
    let U = units size part in
    elim (cases_lt n U) [
      | inl b ↦ rw (lt-ltb n U b) (last_of size part n some b)
      | inr b ↦ rw (le-ltb n U b) (last_rest size parts (n - U) some)
    ]

some_left : (long size U n : ℕ) → U * size < long + size → n < U → 0 < long - size * n
some_left long size U n least l =
    let h : size * (n + 1) ≤ size * U = mul-le-mul_left size (omega arith) in
    omega arith

-- there is something exactly up to the last part
pub rest_some : (size : ℕ) (parts : List (List ℕ)) (n : ℕ) → 0 < size → n < all_units size parts → 0 < length (rest_from size parts n)
rest_some size [] n some l = absurd (omega arith)
rest_some size (part ∷ parts) n some l =
    let U = units size part in
    elim (cases_lt n U) [
      | inl b ↦
          let covered = div_ceil_times (length part) size some in
          let h = some_left (length part) size U n covered.1 b in
          rw (lt-ltb n U b, length-drop (size * n) part) h
      | inr b ↦ rw (le-ltb n U b) (rest_some size parts (n - U) some (omega arith))
    ]

pub rest_none : (size : ℕ) (parts : List (List ℕ)) (n : ℕ) → all_units size parts ≤ n → rest_from size parts n ≡ []
rest_none size [] n l = refl
rest_none size (part ∷ parts) n l = rw (le-ltb n (units size part) (omega arith)) (rest_none size parts (n - units size part) (omega arith))

-- FINDING IT

-- nothing stands past a part's units
past_part : (size : ℕ) (part : List ℕ) (m : ℕ) → 0 < size → units size part ≤ m → drop (size * m) part ≡ []
past_part size part m some l =
    let covered = div_ceil_times (length part) size some in
    let h : size * units size part ≤ size * m = mul-le-mul_left size l in
    drop_all (size * m) part (omega arith)

-- part i has it, where unit m is none of those before, and none of those of later parts
pub rest_at : (size : ℕ) (parts : List (List ℕ)) (i m : ℕ) → 0 < size → i < length parts
    → all_units size (take i parts) ≤ m
    → (suc i < length parts → m < all_units size (take (suc i) parts))
    → rest_from size parts m ≡ drop (size * (m - all_units size (take i parts))) (get_or parts i [])
rest_at size [] i m some l from until = absurd (omega arith)
rest_at size (part ∷ []) zero m some l from until =
    let whole : m - 0 ≡ m = omega arith in
    elim (cases_lt m (units size part)) [
      | inl b ↦ rw (lt-ltb m (units size part) b, whole) refl
      | inr b ↦ rw (le-ltb m (units size part) b, whole) (sym (past_part size part m some b))
    ]
rest_at size (part ∷ next ∷ parts) zero m some l from until =
    let b : m < units size part + 0 = until (omega arith) in
    let whole : m - 0 ≡ m = omega arith in
    rw (lt-ltb m (units size part) (omega arith), whole) refl
rest_at size (part ∷ parts) (suc i) m some l from until =
    let U = units size part in
    let A = all_units size (take i parts) in
    let e : m - U - A ≡ m - (U + A) = omega arith in
    rw (le-ltb m U (omega arith), sym e)
    (rest_at size parts i (m - U) some (omega arith) (omega arith) (λ h.
    let b : m < U + all_units size (take (suc i) parts) = until (omega arith) in
    omega arith))

-- PLACES

none_units : (size i : ℕ) → all_units size (take i []) ≡ 0
none_units size zero = refl
none_units size (suc i) = refl

-- more parts take no fewer units
units_rise : (size : ℕ) (parts : List (List ℕ)) (i j : ℕ) → i ≤ j → all_units size (take i parts) ≤ all_units size (take j parts)
units_rise size [] i j l = omega (arith, none_units size i, none_units size j)
units_rise size (part ∷ parts) zero j l = omega arith
units_rise size (part ∷ parts) (suc i) zero l = absurd (omega arith)
units_rise size (part ∷ parts) (suc i) (suc j) l = let h = units_rise size parts i j (omega arith) in omega arith

no_parts : (size : ℕ) (parts : List (List ℕ)) (m : ℕ) → length parts ≡ 0 → rest_from size parts m ≡ []
no_parts size [] m e = refl
no_parts size (part ∷ parts) m e = absurd (omega arith)

module _ {X : Type 0} (first : X → ℕ) (places : List X) (size : ℕ) (parts : List (List ℕ)) where
  -- each place has how many units the parts before it take
  abbrev pub AreFirsts : Type 0
  AreFirsts = (i : ℕ) (d : X) → i < length places → first (get_or places i d) ≡ all_units size (take i parts)

  -- so those up to a number stand before the others
  pub firsts_partitioned : (m : ℕ) → AreFirsts → IsPartitionedBy (λ place. leb (first place) m) places
  firsts_partitioned m firsts i j d low within below =
      let rise = units_rise size parts i j low in
      le-leb _ _ (omega (arith, firsts i d (omega arith), firsts j d within, leb-true _ _ below))

  -- the last of those is the part that has unit m
  pub found_rest : (m until : ℕ) (d : X) → AreFirsts → length places ≡ length parts → 0 < size
      → IsPartitionPoint (λ place. leb (first place) m ≡ true) (λ place. leb (first place) m ≡ false) places until
      → 0 < until
      → until ≤ length places
      → rest_from size parts m ≡ drop (size * (m - first (get_or places (until - 1) d))) (get_or parts (until - 1) [])
  found_rest m until d firsts long some point low high =
      let here = firsts (until - 1) d (omega arith) in
      let at_most = leb-true _ _ (point.0 (until - 1) d (omega arith) (omega arith)) in
      let n : until ≡ suc (until - 1) = omega arith in
      rw here (rest_at size parts (until - 1) m some (omega arith) (omega arith) (λ h.
      subst (λ (k : ℕ). m < all_units size (take k parts)) n
      (omega (arith, firsts until d (omega arith), leb-false _ _ (point.1 until d (omega arith) (omega arith))))))

  -- where there is none of those, there are no places
  pub no_rest : (m until : ℕ) (d : X) → AreFirsts → length places ≡ length parts
      → IsPartitionPoint (λ place. leb (first place) m ≡ true) (λ place. leb (first place) m ≡ false) places until
      → until ≡ 0
      → rest_from size parts m ≡ []
  no_rest m until d firsts long point none =
      elim (cases_lt 0 (length places)) [
        | inl some ↦ absurd (omega (arith, firsts 0 d some, leb-false _ _ (point.1 0 d (omega arith) some)))
        | inr empty ↦ no_parts size parts m (omega arith)
      ]

-- SECTORS

-- a unit by what stands from it on
pub laid_unit : (size : ℕ) (parts : List (List ℕ)) (n : ℕ) → bytes_at (rest_from size parts n) 0 size ≡ map (laid_byte size parts) (range_with_len (size * n) size)
laid_unit size parts n =
    let rest = rest_from size parts n in
    map_range_same (λ i. get_or rest (0 + i) 0) (λ k. laid_byte size parts (size * n + k)) size size refl (λ k l.
    let same : 0 + k ≡ k = omega arith in
    ap (λ j. get_or rest j 0) same ∙ sym (laid_rest size parts n k l))
    ∙ sym (shifted (laid_byte size parts) (size * n) size)

-- a sector that has one unit
pub unit_filled : (size : ℕ) (parts : List (List ℕ)) (n long : ℕ) (rest now : List ℕ)
    → rest ≡ rest_from size parts n
    → long ≡ size
    → now ≡ bytes_at rest 0 long
    → now ≡ map (laid_byte size parts) (range_with_len (size * n) size)
unit_filled size parts n long rest now rest_is long_is now_is =
    now_is ∙ ap (bytes_at rest 0) long_is ∙ ap (λ bs. bytes_at bs 0 size) rest_is ∙ laid_unit size parts n

-- one unit more of a sector, which has its units up to a place
pub unit_more : (size : ℕ) (parts : List (List ℕ)) (first place n start count next : ℕ) (sector unit : List ℕ)
    → take place sector ≡ map (laid_byte size parts) (range_with_len first place)
    → unit ≡ map (laid_byte size parts) (range_with_len (size * n) size)
    → size * n ≡ first + place
    → start ≡ place
    → next ≡ place + size
    → start ≤ length sector
    → take next (put_mid start count sector unit) ≡ map (laid_byte size parts) (range_with_len first next)
unit_more size parts first place n start count next sector unit was is there start_is next_is within =
    let long : length unit ≡ size = ap length is ∙ length-map-range_with_len (laid_byte size parts) (size * n) size in
    take-put_mid start count sector unit next (omega arith) within
    ∙ ap (λ p. take p sector ++ unit) start_is
    ∙ ap (λ bs. bs ++ unit) was
    ∙ ap (λ bs. map (laid_byte size parts) (range_with_len first place) ++ bs) is
    ∙ sym (range_more (laid_byte size parts) first (size * n) place size there)
    ∙ ap (λ p. map (laid_byte size parts) (range_with_len first p)) (sym next_is)

-- how long a part of a sector is
pub middle_long : (start size count : ℕ) (sector : List ℕ) → count ≡ size → start + size ≤ length sector → length (mid_of start count sector) ≡ size
middle_long start size count sector count_is within =
    length-take-le count (drop start sector) (omega (arith, length-drop start sector)) ∙ count_is
