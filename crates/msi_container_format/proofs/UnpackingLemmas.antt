-- What a container's name is unpacked to, and that it gives back what was packed.
use Rattle.std.proofs.Common.{◌≡◌, ◌==◌, ◌<◌, ◌-◌, ◌/◌, ◌%◌, nat_le, ℕ, List, [], ◌∷◌, ◌++◌, Bool, true, false, Option, Some, None, IfSome, get_or, flat_map, refl, sym, arith}
use Rattle.std.specs.List.{list_any}
use Rattle.std.proofs.lemmas.Bool.{le-leb, lt-leb, ne_eqb, or_parts}
use Rattle.std.proofs.lemmas.Bool.Decides.{nat_tests}
use Rattle.msi_container_format.specs.StreamNames.{value_of, character_with, decoded_name, encoded_name, is_forbidden, is_marked, packed, packed_pair, packed_single, table_mark, unpacked}
use Rattle.msi_container_format.proofs.CharacterValueLemmas.{value_below, value_tells}
use Rattle.msi_container_format.proofs.PackingLemmas.{packed_from, packed_is}

-- where it begins with the mark, and where it doesn't
pub decoded_marked : (cs rest text : List ℕ) → cs ≡ table_mark ∷ rest → text ≡ flat_map unpacked rest → ◌≡◌ {A = List ℕ × Bool} (text, true) (decoded_name cs)
decoded_marked cs rest text e t = rw (e, t)

pub decoded_plain : (cs text : List ℕ) → (get_or cs 0 0 == table_mark) ≡ false → text ≡ flat_map unpacked cs → ◌≡◌ {A = List ℕ × Bool} (text, false) (decoded_name cs)
decoded_plain cs text e t = rw (e, t)

-- one packed character
unpacked_pair : (v w : ℕ) → v < 64 → w < 64 → unpacked (packed_pair v w) ≡ character_with v ∷ character_with w ∷ []
unpacked_pair v w a b =
    let low : nat_le 0x3800 (packed_pair v w) ≡ true = le-leb 0x3800 (packed_pair v w) (omega arith) in
    let high : nat_le (packed_pair v w) 0x47FF ≡ true = le-leb (packed_pair v w) 0x47FF (omega arith) in
    let first : (packed_pair v w - 0x3800) % 64 ≡ v = omega arith in
    let second : (packed_pair v w - 0x3800) / 64 ≡ w = omega arith in
    rw (low, high, first, second)

unpacked_single : (v : ℕ) → v < 64 → unpacked (packed_single v) ≡ character_with v ∷ []
unpacked_single v a =
    let from : nat_le 0x3800 (packed_single v) ≡ true = le-leb 0x3800 (packed_single v) (omega arith) in
    let past : nat_le (packed_single v) 0x47FF ≡ false = lt-leb (packed_single v) 0x47FF (omega arith) in
    let low : nat_le 0x4800 (packed_single v) ≡ true = le-leb 0x4800 (packed_single v) (omega arith) in
    let high : nat_le (packed_single v) 0x483F ≡ true = le-leb (packed_single v) 0x483F (omega arith) in
    let value : packed_single v - 0x4800 ≡ v = omega arith in
    rw (from, past, low, high, value)

unpacked_other : (c : ℕ) → is_forbidden c ≡ false → unpacked c ≡ c ∷ []
unpacked_other c f = grind (arith, nat_tests)

-- for any values, characters and what they stand for, as far as these fit one another
module _ (value : ℕ → Option ℕ) (character : ℕ → ℕ) (stands : ℕ → List ℕ) (forbidden : ℕ → Bool)
    (below : (c v : ℕ) → value c ≡ Some v → v < 64) (tells : (c v : ℕ) → value c ≡ Some v → character v ≡ c)
    (pair : (v w : ℕ) → v < 64 → w < 64 → stands (packed_pair v w) ≡ character v ∷ character w ∷ [])
    (single : (v : ℕ) → v < 64 → stands (packed_single v) ≡ character v ∷ [])
    (other : (c : ℕ) → forbidden c ≡ false → stands c ≡ c ∷ []) where
  abbrev of_waiting : Option ℕ → List ℕ
  of_waiting None = []
  of_waiting (Some v) = character v ∷ []

  back_at : (c : ℕ) (cs : List ℕ) (waiting own : Option ℕ) → value c ≡ own → IfSome waiting (λ v. v < 64) → forbidden c ≡ false
      → ((next : Option ℕ) → IfSome next (λ v. v < 64) → flat_map stands (packed_from value next cs) ≡ of_waiting next ++ cs)
      → flat_map stands (packed_from value waiting (c ∷ cs)) ≡ of_waiting waiting ++ c ∷ cs
  back_at c cs None None o w f h = rw (o, other c f, h None tt)
  back_at c cs None (Some u) o w f h = rw (o, h (Some u) (below c u o), tells c u o)
  back_at c cs (Some v) None o w f h = rw (o, single v w, other c f, h None tt)
  back_at c cs (Some v) (Some u) o w f h = rw (o, pair v u w (below c u o), h None tt, tells c u o)

  back : (cs : List ℕ) (waiting : Option ℕ) → IfSome waiting (λ v. v < 64) → list_any forbidden cs ≡ false → flat_map stands (packed_from value waiting cs) ≡ of_waiting waiting ++ cs
  back [] None w f = refl
  back [] (Some v) w f = rw (single v w)
  back (c ∷ cs) waiting w f =
      let (here, there) = or_parts (forbidden c) (list_any forbidden cs) f in
      back_at c cs waiting (value c) refl w here (λ next n. back cs next n there)

-- names without forbidden characters come back
pub unpacked_back : (cs : List ℕ) → list_any is_forbidden cs ≡ false → flat_map unpacked (packed cs) ≡ cs
unpacked_back cs f =
    rw (← packed_is) (back value_of character_with unpacked is_forbidden value_below value_tells unpacked_pair unpacked_single unpacked_other cs None tt f)

-- a packed name begins with the mark only where the name does
pair_differs : (v w : ℕ) → v < 64 → w < 64 → (packed_pair v w == table_mark) ≡ false
pair_differs v w a b = ne_eqb (packed_pair v w) table_mark (λ e. omega arith)

single_differs : (v : ℕ) → v < 64 → (packed_single v == table_mark) ≡ false
single_differs v a = ne_eqb (packed_single v) table_mark (λ e. omega arith)

module _ (value : ℕ → Option ℕ) (below : (c v : ℕ) → value c ≡ Some v → v < 64) where
  after_value_at : (v c : ℕ) (cs : List ℕ) (own : Option ℕ) → value c ≡ own → v < 64 → is_marked (packed_from value (Some v) (c ∷ cs)) ≡ false
  after_value_at v c cs None o a = rw o (single_differs v a)
  after_value_at v c cs (Some w) o a = rw o (pair_differs v w a (below c w o))

  after_value : (v : ℕ) (cs : List ℕ) → v < 64 → is_marked (packed_from value (Some v) cs) ≡ false
  after_value v [] a = single_differs v a
  after_value v (c ∷ cs) a = after_value_at v c cs (value c) refl a

  first_at : (c : ℕ) (cs : List ℕ) (own : Option ℕ) → value c ≡ own → (c == table_mark) ≡ false → is_marked (packed_from value None (c ∷ cs)) ≡ false
  first_at c cs None o m = rw o m
  first_at c cs (Some v) o m = rw o (after_value v cs (below c v o))

  first : (cs : List ℕ) → is_marked cs ≡ false → is_marked (packed_from value None cs) ≡ false
  first [] m = m
  first (c ∷ cs) m = first_at c cs (value c) refl m

pub packed_unmarked : (cs : List ℕ) → is_marked cs ≡ false → is_marked (packed cs) ≡ false
packed_unmarked cs m = rw (← packed_is) (first value_of value_below cs m)

-- the whole round trip
pub name_back : (is_table : Bool) (cs : List ℕ) → is_marked cs ≡ false → list_any is_forbidden cs ≡ false → decoded_name (encoded_name is_table cs) ≡ (cs, is_table)
name_back true cs m f = sym (decoded_marked (encoded_name true cs) (packed cs) cs refl (sym (unpacked_back cs f)))
name_back false cs m f = sym (decoded_plain (encoded_name false cs) cs (packed_unmarked cs m) (sym (unpacked_back cs f)))
