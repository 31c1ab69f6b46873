-- The UTF-16 units of packed names.
use Rattle.std.proofs.Common.{◌≡◌, ◌<◌, ℕ, Bool, true, false, List, [], ◌∷◌, length, Option, Some, None, refl, subst, arith}
use Rattle.std.specs.Char.Escape.{encode_utf16}
use Rattle.std.proofs.lemmas.List.{length-append}
use Rattle.std.proofs.lemmas.Bool.Decides.{nat_tests}
use Rattle.msi_container_format.specs.Names.{utf16_units}
use Rattle.msi_container_format.specs.StreamNames.{value_of, encoded_units, packed, packed_pair, packed_single, table_mark}
use Rattle.msi_container_format.proofs.PackingLemmas.{packed_from, packed_is}

-- some unit where there is a character
one_or_two : (c : ℕ) → 0 < length (encode_utf16 c)
one_or_two c = grind (arith, nat_tests)

some_unit : (c : ℕ) (cs : List ℕ) → 0 < length (utf16_units (c ∷ cs))
some_unit c cs = rw length-append (omega (arith, one_or_two c))

module _ (value : ℕ → Option ℕ) where
  some_waiting_at : (v c : ℕ) (cs : List ℕ) (own : Option ℕ) → value c ≡ own → 0 < length (utf16_units (packed_from value (Some v) (c ∷ cs)))
  some_waiting_at v c cs None o = rw o (some_unit (packed_single v) (c ∷ packed_from value None cs))
  some_waiting_at v c cs (Some w) o = rw o (some_unit (packed_pair v w) (packed_from value None cs))

  some_waiting : (v : ℕ) (cs : List ℕ) → 0 < length (utf16_units (packed_from value (Some v) cs))
  some_waiting v [] = some_unit (packed_single v) []
  some_waiting v (c ∷ cs) = some_waiting_at v c cs (value c) refl

  some_at : (c : ℕ) (cs : List ℕ) (own : Option ℕ) → value c ≡ own → 0 < length (utf16_units (packed_from value None (c ∷ cs)))
  some_at c cs None o = rw o (some_unit c (packed_from value None cs))
  some_at c cs (Some v) o = rw o (some_waiting v cs)

some_packed : (cs : List ℕ) → 0 < length cs → 0 < length (utf16_units (packed cs))
some_packed [] h = h
some_packed (c ∷ cs) h = subst (λ (ds : List ℕ). 0 < length (utf16_units ds)) (packed_is (c ∷ cs)) (some_at value_of c cs (value_of c) refl)

-- so an encoded name has some unit, where the name isn't empty
pub some_units : (is_table : Bool) (cs : List ℕ) → 0 < length cs → 0 < encoded_units is_table cs
some_units true cs h = some_unit table_mark (packed cs)
some_units false cs h = some_packed cs h
